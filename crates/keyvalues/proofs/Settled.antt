-- A call that leaves what was there when it is refused tells what it came to: its answer is a refusal exactly where that is one.
use mathlib.Core.Path.{◌≡◌, refl, ap, ◌∙◌}
use Rattle.std.specs.Prelude
use Rattle.std.specs.Prelude.{Ok, Err}
use Rattle.rules.specs.Basics.{Result, accept, refuse}
use Rattle.rules.specs.Calls.{Answer, Accepted, Refused, Popped, Nothing, Pressed, PressRefused}
use Rattle.keyvalues.specs.declared.refusal.Refusal.{Refusal}
use Rattle.keyvalues.specs.View.{told, said_of, settled}

module _ {A : Type 0} where
  -- what a call came to that left this and answered so
  abbrev came_to : A × Answer → Result A
  came_to (a, Refused n) = refuse n
  came_to (a, Accepted) = accept a
  came_to (a, Popped p) = accept a
  came_to (a, Nothing) = accept a
  came_to (a, Pressed n) = accept a
  came_to (a, PressRefused n m) = accept a

  of_said : (a : A) (x : Prelude.Result (Unit {0}) Refusal) → told (λ _. a) x ≡ came_to (a, said_of x)
  of_said a (Ok u) = refl
  of_said a (Err e) = refl

  of_settled : (old : A) (r : Result A) → came_to (settled old r) ≡ r
  unfolding settled
  of_settled old (accept a) = refl
  of_settled old (refuse n) = refl

  pub settled_told : (old a : A) (x : Prelude.Result (Unit {0}) Refusal) (r : Result A) → (a, said_of x) ≡ settled old r → told (λ _. a) x ≡ r
  settled_told old a x r e = of_said a x ∙ ap came_to e ∙ of_settled old r
