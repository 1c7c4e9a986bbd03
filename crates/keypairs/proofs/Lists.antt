-- A list whose elements are changed one after another, seen through f: what g does to all that f gives.
use Rattle.std.proofs.Common.{◌≡◌, sym, ap, ◌∙◌, ℕ, suc, ◌+◌, ◌≤◌, ◌<◌, List, [], ◌∷◌, ◌++◌, length, map, take, drop, get_or, arith, add-one, append_assoc}
use mathlib.Core.List.{map-append, append-nil}
use lib.ListN.{set, length-take, length-map, drop_of_length-le}
use lib.Seq.{drop-cons, take-suc, get_or_at, set_at, take_all}
use Rattle.std.proofs.lemmas.List.{get_or-map, map-set}

module _ {A B : Type 0} (f : A → B) (g : B → B) where
  -- the first i are changed
  abbrev pub Changed : List A → List A → ℕ → Type 0
  Changed old new i = map f new ≡ map g (take i (map f old)) ++ drop i (map f old)

  module _ (old new : List A) (i : ℕ) where
    pub changed_on : (d a : A) → i < length new → length new ≡ length old → f a ≡ g (f (get_or new i d)) → Changed old new i → Changed old (set new i a) (i + 1)
    changed_on d a h l e inv =
        let bs : List B = map f old in
        let n : i < length bs = omega (arith, length-map old f) in
        let p : length (map g (take i bs)) ≡ i = length-map (take i bs) g ∙ omega (arith, length-take i bs) in
        let at : f (get_or new i d) ≡ get_or bs i (f d)
        = sym (get_or-map f new i d (f d) h) ∙ ap (λ (z : List B). get_or z i (f d)) inv
        ∙ rw (drop-cons bs i (f d) n, get_or_at (map g (take i bs)) (get_or bs i (f d)) (drop (suc i) bs) (f d) i p) in
        map-set f new i a
        ∙ ap (λ (z : List B). set z i (f a)) inv
        ∙ ap (λ (b : B). set (map g (take i bs) ++ drop i bs) i b) (e ∙ ap g at)
        ∙ rw (drop-cons bs i (f d) n, add-one i, set_at (map g (take i bs)) (get_or bs i (f d)) (drop (suc i) bs) (g (get_or bs i (f d))) i p, take-suc bs i (f d) n, map-append g (take i bs) (get_or bs i (f d) ∷ []), append_assoc)

    pub changed_all : length old ≤ i → Changed old new i → map f new ≡ map g (map f old)
    changed_all h inv =
        let n : length (map f old) ≤ i = omega (arith, length-map old f) in
        inv ∙ rw (take_all i (map f old) n, drop_of_length-le (map f old) n, append-nil)
