-- What an array's `map` gives, seen through two views.
use Prim.Native.Nat.{ℕ, zero, suc, ◌<◌}
use native.Mathlib.Omega.{arith}
use mathlib.Core.Path.{◌≡◌, refl}
use mathlib.Core.Bool.{Bool, true}
use mathlib.Core.List.{List, [], ◌∷◌, map}
use lib.ListN.{length, take, get_or}
use denote.Param.Members.{Mut}
use Rattle.std.specs.Fn.{Called}
use Rattle.std.specs.List.{list_all}
use Rattle.std.specs.Array.{IsMapOf}
use Rattle.rules.proofs.Tests.{and_l, and_r}

-- the first k, which look alike place by place where they are in range
same_views : {A B C : Type 0} (u : B → C) (v : A → C) (valid : A → Bool) (k : ℕ) (xs : List A) (ys : List B) → length ys ≡ length xs
    → ((i : ℕ) (d : A) (e : B) → i < length xs → valid (get_or xs i d) ≡ true → u (get_or ys i e) ≡ v (get_or xs i d))
    → list_all valid (take k xs) ≡ true → map u (take k ys) ≡ map v (take k xs)
same_views u v valid zero xs ys l h a = refl
same_views u v valid (suc k) [] [] l h a = refl
same_views u v valid (suc k) [] (y ∷ ys) l h a = absurd (omega arith)
same_views u v valid (suc k) (x ∷ xs) [] l h a = absurd (omega arith)
same_views u v valid (suc k) (x ∷ xs) (y ∷ ys) l h a =
    let b = and_l (valid x) (list_all valid (take k xs)) a in
    let c = and_r (valid x) (list_all valid (take k xs)) a in
    rw (h 0 x y (omega arith) b, same_views u v valid k xs ys (omega arith) (λ i d e m. h (suc i) d e (omega arith)) c)

module _ {F A B C : Type 0} {g : Mut F (A × Unit {0}) B} {f : F} {n : ℕ} (u : B → C) (v : A → C) (xs : List A) (ys : List B) (l : length xs ≡ n) (m : IsMapOf g f xs ys n) where
  -- where each call of the closure gives an item that u sees as v sees the one that it took, if that is in range
  pub mapped_front : (valid : A → Bool) → ((p q : F) (x : A) (y : B) → Called g p (x, tt) y q → valid x ≡ true → u y ≡ v x)
      → (k : ℕ) → list_all valid (take k xs) ≡ true → map u (take k ys) ≡ map v (take k xs)
  mapped_front valid h k a =
      same_views u v valid k xs ys (omega (arith, m.long)) (λ i d e j. let c = m.at i d e (omega arith) in h c.0 c.1 (get_or xs i d) (get_or ys i e) c.2) a

  -- the same of any item
  pub mapped : ((p q : F) (x : A) (y : B) → Called g p (x, tt) y q → u y ≡ v x) → map u ys ≡ map v xs
  mapped h = whole u v xs ys (omega (arith, m.long)) (λ i d e j. let c = m.at i d e (omega arith) in h c.0 c.1 (get_or xs i d) (get_or ys i e) c.2)
    where
      whole : {A B C : Type 0} (u : B → C) (v : A → C) (xs : List A) (ys : List B) → length ys ≡ length xs
          → ((i : ℕ) (d : A) (e : B) → i < length xs → u (get_or ys i e) ≡ v (get_or xs i d)) → map u ys ≡ map v xs
      whole u v [] [] l h = refl
      whole u v [] (y ∷ ys) l h = absurd (omega arith)
      whole u v (x ∷ xs) [] l h = absurd (omega arith)
      whole u v (x ∷ xs) (y ∷ ys) l h = rw (h 0 x y (omega arith), whole u v xs ys (omega arith) (λ i d e k. h (suc i) d e (omega arith)))
