-- A test of a list seen through a view is the rules' test of what is seen.
use Prim.Native.Nat.{ℕ}
use mathlib.Core.Path.{◌≡◌, refl, sym, ap}
use mathlib.Core.List.{List, [], ◌∷◌, map}
use lib.Dec.{eqb}
use borrow.Author.Tests.{eqb-true, eq-eqb}
use Rattle.rules.proofs.Tests.{both_ways}
use Rattle.std.specs.List.{list_all, list_any}
use Rattle.rules.specs.Basics.{every, some_of}
use mathlib.Core.Bool.{Bool, ◌&&◌}

pub every_viewed : {A B : Type 0} (f : A → B) (p : B → Bool) (l : List A) → list_all (λ x. p (f x)) l ≡ every p (map f l)
unfolding every
every_viewed f p [] = refl
every_viewed f p (x ∷ l) = ap (λ b. p (f x) && b) (every_viewed f p l)

eqb_swap : (a b : ℕ) → eqb a b ≡ eqb b a
eqb_swap a b = both_ways _ _ (λ h. eq-eqb b a (sym (eqb-true a b h))) (λ h. eq-eqb a b (sym (eqb-true b a h)))

pub some_found : (a : ℕ) (l : List ℕ) → list_any (λ x. eqb x a) l ≡ some_of (eqb a) l
unfolding some_of
some_found a [] = refl
some_found a (x ∷ l) = simp (eqb_swap x a, some_found a l)
