-- Document 02, request (i): the map file that a machine writes, in the layout that MapFile reads. A file is a list of numbers,
-- each as bytes. So it is said which numbers stand for tables and bindings, and the bytes follow.
use Rattle.std.specs.Prelude.{ℕ, suc, Bool, true, false, leb, length}
use Rattle.std.proofs.Math.Option.{Option, none, some}
use mathlib.Core.List.{List, [], ◌∷◌, ◌++◌, flat_map}
use Rattle.rules.specs.Basics.{Result, accept, unless}
use Rattle.rules.specs.Values.{Event, Key, Class, Any, Fallthrough, Repeat, Once, Min, Max, Part, Step, Binding, Maps, Prefixes}
use Rattle.rules.specs.Tables.{ClassEntry, ModeEntry, Rule, Tables}
use Rattle.rules.specs.Calls.{Kind, Machine}
use Rattle.rules.specs.Numbers.{bytes_of}
use Rattle.rules.specs.Run.{answered}

-- ---- lists and what may be missing

abbrev pub alone : ℕ → List ℕ
alone n = n ∷ []

-- a count, then each
unfoldable pub listed : {A : Type 0} → (A → List ℕ) → List A → List ℕ
listed w xs = length xs ∷ flat_map w xs

-- 0 for no mode, else mode + 1
unfoldable pub mode_number : Option ℕ → ℕ
mode_number none = 0
mode_number (some m) = suc m

-- an optional mark is 0 or itself
unfoldable pub mark_number : Option ℕ → ℕ
mark_number none = 0
mark_number (some m) = m

unfoldable pub flag_number : Bool → ℕ
flag_number false = 0
flag_number true = 1

-- ---- tables

unfoldable pub class_numbers : ClassEntry → List ℕ
class_numbers c = c.class ∷ c.low ∷ c.high ∷ []

unfoldable pub mode_numbers : ModeEntry → List ℕ
mode_numbers e = listed alone e.enter ++ (listed alone e.unmapped ++ alone (mode_number e.next))

unfoldable pub rule_numbers : Rule → List ℕ
rule_numbers r = r.mode ∷ r.low ∷ r.high ∷ r.sequence ∷ r.status ∷ []

-- the modes are as many as the tables have
unfoldable pub tables_numbers : Tables → List ℕ
tables_numbers t = listed class_numbers t.classes ++ (listed mode_numbers t.modes ++ listed rule_numbers t.rules)

-- ---- bindings

-- 0 once; 1 min and 2 max, each with n
unfoldable pub repeat_numbers : Repeat → List ℕ
repeat_numbers Once = 0 ∷ []
repeat_numbers (Min n) = 1 ∷ n ∷ []
repeat_numbers (Max n) = 2 ∷ n ∷ []

-- 0 key and 1 class, each with a value; 2 any, 3 fallthrough
unfoldable pub event_numbers : Event → List ℕ
event_numbers (Key k) = 0 ∷ k ∷ []
event_numbers (Class c) = 1 ∷ c ∷ []
event_numbers Any = 2 ∷ []
event_numbers Fallthrough = 3 ∷ []

unfoldable pub part_numbers : Part → List ℕ
part_numbers p = repeat_numbers p.repeat ++ event_numbers p.event

unfoldable pub step_numbers : Step → List ℕ
step_numbers s = flag_number s.flag ∷ (listed alone s.actions ++ (mode_number s.next ∷ mode_number s.fallthrough ∷ mark_number s.mark ∷ []))

-- 0 a mapping, 1 a prefix, 2 a prefix with a step
unfoldable pub binding_numbers : Binding → List ℕ
binding_numbers (Maps mode path st) = 0 ∷ mode ∷ (listed part_numbers path ++ step_numbers st)
binding_numbers (Prefixes mode path none) = 1 ∷ mode ∷ listed part_numbers path
binding_numbers (Prefixes mode path (some st)) = 2 ∷ mode ∷ (listed part_numbers path ++ step_numbers st)

-- ---- the file

unfoldable pub map_numbers : Tables → List Binding → List ℕ
map_numbers t xs = tables_numbers t ++ listed binding_numbers xs

-- each number as bytes
unfoldable pub in_bytes : List ℕ → List ℕ
in_bytes ns = flat_map bytes_of ns

unfoldable pub write_map : Tables → List Binding → List ℕ
write_map t xs = in_bytes (map_numbers t xs)

-- written to an output of length `lent`, all of which may be used: 10 it does not fit
unfoldable pub written : Tables → List Binding → ℕ → Result (List ℕ)
written t xs lent = unless (leb (length (write_map t xs)) lent) 10 (accept (write_map t xs))

-- what C gets: a number and the output, as of a run
abbrev pub sent : Tables → List Binding → List ℕ → ℕ × List ℕ
sent t xs lent = answered (λ bs. bs) lent (written t xs (length lent))

module _ (𝓚 : Kind) where
  -- the map file of a machine: its tables, and the binding calls that it kept
  unfoldable pub file_of : Machine 𝓚 → List ℕ
  file_of s = write_map s.state.shared.tables s.kept

  -- write: the file, and the machine stays
  abbrev pub write_call : Machine 𝓚 → List ℕ → ℕ × List ℕ
  write_call s lent = sent s.state.shared.tables s.kept lent

-- ---- everything above, to be opened by one name where a run is computed
unfoldable pub open-Writing : Unit {0}
unfolding listed mode_number mark_number flag_number class_numbers mode_numbers rule_numbers tables_numbers repeat_numbers event_numbers part_numbers step_numbers binding_numbers map_numbers in_bytes write_map written file_of flat_map
open-Writing = tt
