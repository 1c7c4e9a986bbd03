-- Lists behind a count: what is put behind the count comes to the whole list.
use Prim.Native.Nat.{ℕ, ◌+◌, ◌*◌, ◌<◌, ◌≤◌}
use native.Mathlib.Omega.{arith}
use native.Mathlib.Nat.{mul-suc}
use mathlib.Core.Path.{◌≡◌, sym, ap, ◌∙◌}
use mathlib.Core.List.{List, [], ◌∷◌, ◌++◌, map, flat_map, append-nil}
use lib.ListN.{length, length-append, length-map, take, get_or}
use lib.Seq.{take_all}
use Rattle.std.proofs.lemmas.List.{map-id, take-map, map_more}
use Rattle.std.proofs.lemmas.Grind.{flat_map-append}
use Rattle.rules.specs.Basics.{accept, refuse}
use Rattle.rules.specs.Writing.{alone, listed}
use Rattle.keptcalls.specs.View.{part_at, parts_in}
use Rattle.mapparts.specs.View.{Page, put_all}
use Rattle.mapparts.proofs.Writing.{then_put, put_first, put_append}

-- the numbers of an action are the action alone
pub action_list : (xs : List ℕ) → listed alone (map (λ n. n) xs) ≡ listed alone xs
action_list xs = ap (listed alone) (map-id xs)

-- the parts of the first codes are the first parts
pub parts_taken : (n : ℕ) (cs : List ℕ) → map part_at (take n cs) ≡ take n (parts_in cs)
parts_taken n cs = sym (take-map part_at n cs)

-- what is put behind a call's head
pub behind_head : (kind mode : ℕ) (xs ys : List ℕ) (p : Page) → put_all (kind ∷ mode ∷ (xs ++ ys)) p ≡ then_put put_all (put_all (kind ∷ mode ∷ xs) p) ys
behind_head kind mode xs ys p = put_append (kind ∷ mode ∷ xs) ys p

module _ {A B : Type 0} (w : B → List ℕ) (v : A → B) (xs : List A) (p : Page) where
  abbrev each : List ℕ
  each = flat_map w (map v xs)

  counted : put_all (listed w (map v xs)) p ≡ then_put put_all (put_all (length xs ∷ []) p) each
  unfolding listed
  counted = ap (λ n. put_all (n ∷ each) p) (length-map xs v) ∙ put_first (length xs) each p

  pub count_more : (q : Page) → accept q ≡ put_all (length xs ∷ []) p → put_all each q ≡ put_all (listed w (map v xs)) p
  unfolding then_put
  count_more q e = ap (λ r. then_put put_all r each) e ∙ sym counted

  pub count_stop : (n : ℕ) → refuse n ≡ put_all (length xs ∷ []) p → refuse n ≡ put_all (listed w (map v xs)) p
  unfolding then_put
  count_stop n e = ap (λ r. then_put put_all r each) e ∙ sym counted

-- ---- how many numbers: of each entry at most k
module _ {A B : Type 0} (w : B → List ℕ) (v : A → B) (k : ℕ) (xs : List A) where
  abbrev pub Short : ℕ → Type 0
  Short i = length (flat_map w (map v (take i xs))) ≤ k * i

  pub short_none : Short 0
  unfolding flat_map
  short_none = omega arith

  pub short_more : (i : ℕ) (d x : A) → i < length xs → get_or xs i d ≡ x → length (w (v x)) ≤ k → Short i → Short (i + 1)
  unfolding flat_map
  short_more i d x h g f l =
      let e : flat_map w (map v (take (i + 1) xs)) ≡ flat_map w (map v (take i xs)) ++ w (v x)
      = ap (flat_map w) (map_more v xs i d h) ∙ flat_map-append w (map v (take i xs)) (v (get_or xs i d) ∷ []) ∙ ap (λ ys. flat_map w (map v (take i xs)) ++ ys) (append-nil (w (v (get_or xs i d))) ∙ ap (λ y. w (v y)) g) in
      omega (arith, ap length e, length-append (flat_map w (map v (take i xs))) (w (v x)), mul-suc k i)

  pub short_all : (i : ℕ) → i ≤ length xs → length xs ≤ i → Short i → length (listed w (map v xs)) ≤ 1 + k * length xs
  unfolding listed
  short_all i h m l =
      let e : i ≡ length xs = omega arith in
      let t : length (flat_map w (map v (take i xs))) ≡ length (flat_map w (map v xs)) = ap (λ ys. length (flat_map w (map v ys))) (take_all i xs m) in
      let p : k * i ≡ k * length xs = ap (λ n. k * n) e in
      omega (arith, l, t, p)
