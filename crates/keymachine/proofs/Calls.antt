-- `call` hands back the machine before it where its work was refused, and else the one that it came to: so does each call here.
use Prim.Native.Nat.{ℕ}
use mathlib.Core.Path.{◌≡◌}
use mathlib.Core.Bool.{true, false, Bool}
use Rattle.rules.specs.Basics.{accept, refuse, unless}
use Rattle.rules.specs.Tables.{Tables, tables_valid}
use Rattle.rules.specs.KeyLoop.{State, KeyResult, Input, input_key, reset_mode}
use Rattle.std.specs.Prelude
use Rattle.std.specs.Prelude.{Ok, Err}
use Rattle.std.specs.Result.{is_ok}
use Rattle.keyvalues.specs.declared.refusal.Refusal.{Refusal}
use Rattle.keyvalues.specs.View.{told}
use Rattle.keymachine.specs.View.{press_of}
use Rattle.rules.specs.Calls.{Machine, Accepted, Refused, with_state, fresh, open_with, settled, pressed, key_call, reset_call, call, Open, Press, Reset, graph_kind, graph_navigator}

-- ---- open

module _ (s : Machine graph_kind) (t : Tables) where
  pub opened : (t' : Tables) → accept t' ≡ unless (tables_valid t) 1 (accept t) → (fresh graph_kind t', Accepted) ≡ call graph_kind s (Open t)
  unfolding call settled open_with
  opened t' e = pick (tables_valid t) e
    where
      pick : (b : Bool) → accept t' ≡ unless b 1 (accept t) → (fresh graph_kind t', Accepted) ≡ settled graph_kind s (unless b 1 (accept (fresh graph_kind t)))
      pick true e = let f : t' ≡ t = cc in rw f
      pick false e = cc

  pub not_opened : (n : ℕ) → refuse n ≡ unless (tables_valid t) 1 (accept t) → (s, Refused n) ≡ call graph_kind s (Open t)
  unfolding call settled open_with
  not_opened n e = pick (tables_valid t) e
    where
      pick : (b : Bool) → refuse n ≡ unless b 1 (accept t) → (s, Refused n) ≡ settled graph_kind s (unless b 1 (accept (fresh graph_kind t)))
      pick true e = cc
      pick false e = let f : n ≡ 1 = cc in rw f

-- ---- key

-- what the rounds of a key came to, where x is the state that they left
module _ (s : Machine graph_kind) (i : Input) (rounds : ℕ) (x : State ℕ) where
  abbrev pub Came : Prelude.Result (Unit {0}) Refusal → Type 0
  Came r = ◌≡◌ {A = KeyResult ℕ} (record { rounds = rounds; result = told (λ _. x) r }) (input_key (graph_navigator s.bindings) i s.state)

  pub press_done : (r : Prelude.Result (Unit {0}) Refusal) → Came r → true ≡ is_ok r → (with_state graph_kind s x, press_of (rounds, r)) ≡ call graph_kind s (Press i)
  unfolding call key_call pressed
  press_done (Ok u) e h = rw (← e)
  press_done (Err n) e h = cc

  pub press_refused : (r : Prelude.Result (Unit {0}) Refusal) → Came r → false ≡ is_ok r → (s, press_of (rounds, r)) ≡ call graph_kind s (Press i)
  unfolding call key_call pressed
  press_refused (Ok u) e h = cc
  press_refused (Err n) e h = rw (← e)

-- ---- reset

module _ (s : Machine graph_kind) where
  pub reset_refused : (n : ℕ) → refuse n ≡ reset_mode (graph_navigator s.bindings) s.state → (s, Refused n) ≡ call graph_kind s Reset
  unfolding call settled reset_call
  reset_refused n e = rw (← e)

  pub reset_done : (x : State ℕ) → accept x ≡ reset_mode (graph_navigator s.bindings) s.state → (with_state graph_kind s x, Accepted) ≡ call graph_kind s Reset
  unfolding call settled reset_call
  reset_done x e = rw (← e)
