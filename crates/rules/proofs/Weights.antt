-- What the keys of a list weigh together, where each weighs 1 and something more, whatever that is; and what holds of each of a
-- list.
use Prim.Native.Nat.{ℕ, zero, suc, ◌+◌, ◌*◌, ◌≤◌}
use native.Mathlib.Omega.{arith}
use mathlib.Core.Path.{◌≡◌, refl}
use mathlib.Core.List.{List, [], ◌∷◌, ◌++◌, map}
use lib.ListN.{length, drop, get_or, set}

-- ---- of each of a list

abbrev pub Each : {A : Type 0} → (A → Type 0) → List A → Type 0
Each K [] = Unit {0}
Each K (k ∷ ks) = K k × Each K ks

pub each_append : {A : Type 0} (K : A → Type 0) (xs ys : List A) → Each K xs → Each K ys → Each K (xs ++ ys)
each_append K [] ys h k = k
each_append K (x ∷ xs) ys h k = (h.0, each_append K xs ys h.1 k)

pub each_drop : (K : ℕ → Type 0) (xs : List ℕ) → Each K xs → Each K (drop 1 xs)
each_drop K [] h = tt
each_drop K (x ∷ xs) h = h.1

pub each_any : {A : Type 0} {K : A → Type 0} → ((k : A) → K k) → (xs : List A) → Each K xs
each_any h [] = tt
each_any h (x ∷ xs) = (h x, each_any h xs)

pub each_map : {K L : ℕ → Type 0} → ((k : ℕ) → K k → L k) → (xs : List ℕ) → Each K xs → Each L xs
each_map f [] h = tt
each_map f (x ∷ xs) h = (f x h.0, each_map f xs h.1)

pub each_image : {A B : Type 0} (K : A → Type 0) (L : B → Type 0) (f : A → B) → ((x : A) → K x → L (f x)) → (xs : List A) → Each K xs → Each L (map f xs)
each_image K L f k [] h = tt
each_image K L f k (x ∷ xs) h = (k x h.0, each_image K L f k xs h.1)

pub each_at : {A : Type 0} (K : A → Type 0) (xs : List A) (i : ℕ) {d : A} → K d → Each K xs → K (get_or xs i d)
each_at K [] i k h = k
each_at K (x ∷ xs) zero k h = h.0
each_at K (x ∷ xs) (suc i) k h = each_at K xs i k h.1

pub each_set : {A : Type 0} (K : A → Type 0) (xs : List A) (i : ℕ) {x : A} → K x → Each K xs → Each K (set xs i x)
each_set K [] i k h = h
each_set K (y ∷ xs) zero k h = (k, h.1)
each_set K (y ∷ xs) (suc i) k h = (h.0, each_set K xs i k h.1)

-- ---- weights

unfoldable pub weight_by : (ℕ → ℕ) → List ℕ → ℕ
weight_by more [] = 0
weight_by more (k ∷ ks) = 1 + more k + weight_by more ks

module _ (more : ℕ → ℕ) where
  pub weight_nil : weight_by more [] ≡ 0
  unfolding weight_by
  weight_nil = refl

  pub weight_cons : (k : ℕ) (ks : List ℕ) → weight_by more (k ∷ ks) ≡ 1 + more k + weight_by more ks
  unfolding weight_by
  weight_cons k ks = refl

  pub weight_append : (xs ys : List ℕ) → weight_by more (xs ++ ys) ≡ weight_by more xs + weight_by more ys
  unfolding weight_by
  weight_append [] ys = omega arith
  weight_append (x ∷ xs) ys = omega (arith, weight_append xs ys)

  -- the first of some keys weighs 1 at least
  pub weight_behind : (xs : List ℕ) (k : ℕ) → 1 + weight_by more (drop 1 (xs ++ (k ∷ []))) ≤ weight_by more (xs ++ (k ∷ []))
  unfolding weight_by
  weight_behind [] k = omega arith
  weight_behind (x ∷ xs) k = omega arith

  pub length-weight : (xs : List ℕ) → length xs ≤ weight_by more xs
  unfolding weight_by
  length-weight [] = omega arith
  length-weight (x ∷ xs) = omega (arith, length-weight xs)

  -- keys that weigh 2 at most
  pub weight_most : (xs : List ℕ) → Each (λ k. more k ≤ 1) xs → weight_by more xs ≤ 2 * length xs
  unfolding weight_by
  weight_most [] h = omega arith
  weight_most (x ∷ xs) h = let a : more x ≤ 1 = h.0 in omega (arith, weight_most xs h.1)
