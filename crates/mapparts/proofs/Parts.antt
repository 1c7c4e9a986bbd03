-- Lists in arrays: a list that was read stands in front of its array, which it fits, so that its count cuts nothing off.
use Prim.Native.Nat.{ℕ, ◌+◌, ◌≤◌, ◌<◌}
use native.Mathlib.Numerals.{add-one}
use mathlib.Core.Path.{◌≡◌, sym, ap, ◌∙◌}
use mathlib.Core.List.{List, [], ◌∷◌, ◌++◌, map, map-append}
use lib.ListN.{length, take, set, length-map}
use lib.Seq.{take-suc-set}
use Rattle.keyvalues.specs.View.{fit}
use Rattle.std.proofs.lemmas.List.{map-id, take-map}
use Rattle.keyvalues.proofs.Ranges.{fit_take}

-- the first n of an array, as the list that was read
pub fit_map : {A B : Type 0} (f : A → B) (d : B) (n : ℕ) (xs : List A) → n ≤ length xs → fit d n (map f xs) ≡ map f (take n xs)
fit_map f d n xs h = fit_take d n (map f xs) (rw (length-map xs f) h) ∙ take-map f n xs

-- the same of an array of numbers
pub fit_numbers : (n : ℕ) (xs : List ℕ) → n ≤ length xs → fit 0 n xs ≡ map (λ k. k) (take n xs)
fit_numbers n xs h = fit_take 0 n xs h ∙ sym (map-id (take n xs))

-- one more stored behind the first
module _ {A B : Type 0} (f : A → B) where
  pub map_set : (xs : List A) (i : ℕ) (a : A) → i < length xs → map f (take (i + 1) (set xs i a)) ≡ map f (take i xs) ++ f a ∷ []
  map_set xs i a h = ap (map f) (ap (λ k. take k (set xs i a)) (add-one i) ∙ take-suc-set xs i a h) ∙ map-append f (take i xs) (a ∷ [])
