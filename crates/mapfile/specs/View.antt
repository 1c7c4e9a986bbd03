-- What the answers of the file's functions mean, in the values of the rules.
use Rattle.std.specs.Prelude as Prelude
use Rattle.std.specs.Prelude.{Ok, Err, ℕ, ◌≤◌, ◌≡◌, List, [], ◌∷◌, ◌++◌, length, All}
use mathlib.Core.List.{flat_map}
use Rattle.rules.specs.Basics.{Result, accept, refuse}
use Rattle.rules.specs.Values.{Pair}
use Rattle.rules.specs.Numbers.{bytes_of}
use Rattle.rules.specs.MapFile.{Reader, then_read, lifted, read_binding}
use Rattle.rules.specs.Run.{count_number, pair_bytes}
use Rattle.rules.specs.Calls.{Machine, graph_kind, fresh, bind}
use Rattle.keytables.specs.View.{tables_of}
use Rattle.keptcalls.specs.declared.words.CallWords.{CallWords}
use Rattle.keybind.specs.declared.map.Map.{Map}
use Rattle.keybind.specs.View.{map_kept}
use Rattle.keyvalues.specs.declared.refusal.Refusal.{Refusal}
use Rattle.keyvalues.specs.View.{number_of}
use Rattle.mapparts.specs.View.{laid}

-- ---- the map

-- a binding, which is called after its last number
abbrev pub bind_next : Machine graph_kind → Reader (Machine graph_kind)
bind_next m = λ bs. then_read (read_binding bs) (λ x. lifted (bind graph_kind x m))

-- the fresh machine with the tables, over the graph that was read and the calls that were kept
abbrev pub map_of : List CallWords → Map → Machine graph_kind
map_of ws m = map_kept ws m (fresh graph_kind (tables_of m.tables)).state

-- ---- writing

-- a pair as three numbers, and those as bytes
abbrev pub numbers_of : Pair → List ℕ
numbers_of p = p.action ∷ count_number p.context ∷ p.context.mark ∷ []

abbrev pub bytes_of_pair : Pair → List ℕ
bytes_of_pair p = bytes_of p.action ++ bytes_of (count_number p.context) ++ bytes_of p.context.mark

-- pairs as numbers
abbrev pub pair_numbers : List Pair → List ℕ
pair_numbers ps = flat_map numbers_of ps

-- ---- the run

-- each number of the pair is one of 16 bits
abbrev pub Small : Pair → Type 0
Small p = (p.action ≤ 65535) × (p.context.count ≤ 65535) × (p.context.mark ≤ 65535)

-- a run that was not refused told how many bytes its pairs have, all of whose numbers are small; else its refusal is the rules'
abbrev pub Ran : Result (List Pair) → Prelude.Result ℕ Refusal → Type 0
Ran x (Ok n) = (ps : List Pair) × (x ≡ accept ps) × (n ≡ length (pair_bytes ps)) × All Small ps
Ran x (Err e) = x ≡ refuse (number_of e)

-- it ran, and the bytes of its pairs fit and stand in front of the output
abbrev pub Ended : Result (List Pair) → Prelude.Result ℕ Refusal → List ℕ → List ℕ → Type 0
Ended x r out out₁ = Ran x r × ((ps : List Pair) → x ≡ accept ps → (length (pair_bytes ps) ≤ length out) × (out₁ ≡ laid 0 (pair_bytes ps) out))
