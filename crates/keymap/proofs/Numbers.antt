-- A machine that is opened by a map, or changed to one; a binding that is read and then called; a repeat with any count; and a
-- key's answer.
use Rattle.std.specs.Prelude as Prelude
use Rattle.std.specs.Prelude.{Ok, Err}
use Prim.Native.Nat.{ℕ, ◌+◌, ◌*◌, ◌≤◌, ◌<◌}
use native.Mathlib.Omega.{arith}
use mathlib.Core.Path.{◌≡◌, sym, ap}
use mathlib.Core.Bool.{Bool}
use mathlib.Core.Option.{some}
use mathlib.Core.List.{List}
use borrow.Author.Tests.{le-leb, lt-leb}
use Rattle.rules.specs.Basics.{Result, accept, refuse, ◌>>=◌, unless}
use Rattle.rules.specs.Values.{Binding}
use Rattle.rules.specs.Calls.{Machine, graph_kind, bind, carry_over, settled, repeat_call, call, Repeats, Answer, Accepted, Refused}
use Rattle.rules.specs.MapFile.{read_binding, at_end, read_map}
use Rattle.rules.specs.Run.{numbered}
use Rattle.keyvalues.specs.declared.refusal.Refusal.{Refusal}
use Rattle.keyvalues.specs.View.{said_of}
use Rattle.keymachine.specs.View.{press_of}
use Rattle.keymap.specs.Codes.{answer_code, open_map, change_map, bind_map, repeat_over}

module _ (m : Machine graph_kind) (bs : List ℕ) where
  -- a map that is refused leaves the machine
  pub refused : (n : ℕ) → refuse n ≡ read_map bs → (m, Refused n) ≡ open_map m bs
  unfolding settled
  refused n e = ap (settled graph_kind m) e

  -- a map that is accepted is the machine
  pub accepted : (x : Machine graph_kind) → accept x ≡ read_map bs → (x, Accepted) ≡ open_map m bs
  unfolding settled
  accepted x e = ap (settled graph_kind m) e

  abbrev carried : Result (Machine graph_kind) → Machine graph_kind × Answer
  carried r = settled graph_kind m (r >>= λ next. accept (carry_over graph_kind m next))

  -- the same of a change: refused, the machine stays
  pub not_changed : (n : ℕ) → refuse n ≡ read_map bs → (m, Refused n) ≡ change_map m bs
  unfolding settled
  not_changed n e = ap carried e

  -- accepted, it is carried over
  pub changed : (x : Machine graph_kind) → accept x ≡ read_map bs → (carry_over graph_kind m x, Accepted) ≡ change_map m bs
  unfolding settled
  changed x e = ap carried e

  abbrev called : Result Binding → Result (Machine graph_kind)
  called r = r >>= λ x. bind graph_kind x m

  -- a binding that cannot be read leaves the machine
  pub not_read : (n : ℕ) → refuse n ≡ at_end (read_binding bs) → (m, Refused n) ≡ bind_map m bs
  unfolding settled
  not_read n e = ap (λ r. settled graph_kind m (called r)) e

module _ (m : Machine graph_kind) (q count mark : ℕ) where
  abbrev by : Bool → Machine graph_kind × Answer
  by b = settled graph_kind m (unless b 1 (repeat_call graph_kind q (some (numbered count mark)) m))

  -- a number that no count has leaves the machine
  pub too_many : 65536 < count → (m, Refused 1) ≡ repeat_over m q count mark
  unfolding settled
  too_many h = sym (ap by (lt-leb count 65536 h))

  -- else it is the rules' call
  pub few_enough : count ≤ 65536 → call graph_kind m (Repeats q (some (numbered count mark))) ≡ repeat_over m q count mark
  unfolding call
  few_enough h = sym (ap by (le-leb count 65536 h))

-- the rounds, and the refusal's number more
pub pressed : (rounds : ℕ) (r : Prelude.Result (Unit {0}) Refusal) → rounds * 32 + answer_code (said_of r) ≡ answer_code (press_of (rounds, r))
pressed rounds (Ok u) = omega arith
pressed rounds (Err e) = omega arith
