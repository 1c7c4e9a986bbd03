-- What a text comes to in lent bytes, a pair that is read back, what an input comes to, and what a program does.
use Rattle.std.specs.Prelude as Prelude
use Rattle.std.specs.Prelude.{Ok, Err, ℕ, ◌≡◌, ◌≤◌, List, ◌++◌, leb, length, take, drop, replicate, if◌then◌else◌}
use Rattle.std.specs.Fn.{Once}
use denote.Ref.{Bor, MutBor}
use Rattle.std.specs.List.{All}
use Rattle.rules.specs.Basics.{Result, accept, refuse, unless}
use Rattle.rules.specs.Values.{Pair}
use Rattle.rules.specs.Numbers.{number, number_up_to}
use Rattle.rules.specs.MapFile.{Reader, ◌>>=◌, give}
use Rattle.rules.specs.Run.{most_count, numbered, pair_bytes, play_input}
use Rattle.keyvalues.specs.declared.refusal.Refusal.{Refusal}
use Rattle.keyvalues.specs.View.{number_of}
use Rattle.mapfile.specs.View.{Small}

-- the text stands in front, the rest stays, and its length is told; where it does not fit, it is refused, and all is zeros
abbrev pub printed : List ℕ → List ℕ → Result ℕ × List ℕ
printed lent text = if leb (length text) (length lent) then (accept (length text), text ++ drop (length text) lent) else (refuse 10, replicate (length lent) 0)

-- a pair is three numbers, the second that of its count
abbrev pub read_pair : Reader Pair
read_pair = do
  action ← number
  count ← number_up_to most_count
  mark ← number
  give (record { action = action; context = numbered count mark })

-- what an input comes to: 9 where it is longer than a program takes
abbrev pub played : List ℕ → Result (List Pair)
played input = unless (leb (length input) 65536) 9 (play_input input)

-- so many bytes of pairs stand in front of the output, or it was refused
abbrev pub Played : Result (List Pair) → Prelude.Result ℕ Refusal → List ℕ → Type 0
Played x (Ok n) out = (ps : List Pair) × (x ≡ accept ps) × All Small ps × (n ≤ length out) × (take n out ≡ pair_bytes ps)
Played x (Err e) out = x ≡ refuse (number_of e)

-- f was called with these bytes, and some writer, and gave no error
pub record Answered {F W E : Type 0} (g : Once F (MutBor W × (Bor (List ℕ) × Unit {0})) (Prelude.Result (Unit {0}) E × (MutBor W × Unit {0}))) (f : F) (bytes : List ℕ) : Type 0 where
  pub out : MutBor W
  pub input : Bor (List ℕ)
  pub shows : input.now ≡ bytes
  pub left : MutBor W
  pub called : g.post f (out, (input, tt)) (Ok tt, (left, tt))
