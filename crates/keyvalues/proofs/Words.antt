-- Laws of the codes of events.
use Prim.Native.Nat.{ℕ}
use mathlib.Core.Path.{◌≡◌, sym, ap, ◌∙◌}
use native.Mathlib.Omega.{arith}
use lib.Dec.{eqb}
use borrow.Author.Tests.{eq-eqb, eqb-true}
use Rattle.rules.specs.Values.{same_event}
use Rattle.rules.proofs.Tests.{both_ways, event_is, event_same}
use Rattle.std.proofs.lemmas.Bool.Decides.{nat_tests}
use Rattle.keyvalues.specs.View.{event_code, event_at}

pub code_event : (c : ℕ) → event_code (event_at c) ≡ c
unfolding event_code event_at
code_event c = grind (arith, nat_tests)

pub same_code : (a b : ℕ) → same_event (event_at a) (event_at b) ≡ eqb a b
same_code a b =
    both_ways _ _
    (λ h. eq-eqb a b (sym (code_event a) ∙ ap event_code (event_is (event_at a) (event_at b) h) ∙ code_event b))
    (λ h. let e = eqb-true a b h in rw e (event_same (event_at b)))
