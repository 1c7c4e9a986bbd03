-- Bytes laid over others, and what is put behind what was put: two parts laid one behind the other are both laid at once, so that
-- numbers put one by one are put at once.
use Prim.Native.Nat.{ℕ, ◌+◌, ◌/◌, ◌%◌, ◌≤◌, ◌<◌}
use native.Mathlib.Omega.{arith}
use native.Mathlib.Numerals.{add-one}
use native.Mathlib.Nat.{add-zero}
use mathlib.Core.Path.{◌≡◌, refl, sym, ap, ◌∙◌}
use mathlib.Core.Logic.{◌⊎◌, inl, inr}
use mathlib.Core.List.{List, [], ◌∷◌, ◌++◌, append_assoc, append-nil, map, flat_map}
use lib.ListN.{length, take, drop, get_or, length-append, length-drop, take-append-drop}
use lib.Seq.{take_at, drop_at, drop-drop, drop-cons, length-take-le}
use borrow.Author.Tests.{lt-ltb, le-ltb, le-leb, lt-leb}
use Rattle.std.proofs.lemmas.List.{drop_all}
use Rattle.rules.specs.Basics.{Result, accept, refuse, ◌>>=◌}
use Rattle.rules.specs.Numbers.{bytes_of}
use Rattle.rules.specs.Writing.{in_bytes}
use Rattle.rules.proofs.Numbers.{side, written_one}
use Rattle.mapparts.specs.View.{laid, Page, placed, put_all}

-- ---- a number's bytes

pub bytes_one : (v : ℕ) → v < 128 → bytes_of v ≡ v ∷ []
bytes_one v h = written_one v h

pub bytes_two : (v : ℕ) → 128 ≤ v → v < 16384 → bytes_of v ≡ (v % 128 + 128) ∷ v / 128 ∷ []
unfolding bytes_of
bytes_two v h k = rw (le-ltb v 128 h, lt-ltb v 16384 k)

pub bytes_three : (v : ℕ) → 16384 ≤ v → bytes_of v ≡ (v % 128 + 128) ∷ (v / 128 % 128 + 128) ∷ v / 16384 ∷ []
unfolding bytes_of
bytes_three v k = rw (le-ltb v 128 (omega arith), le-ltb v 16384 k)

-- ---- what is laid

pub length-laid : (at : ℕ) (bs out : List ℕ) → at + length bs ≤ length out → length (laid at bs out) ≡ length out
unfolding laid
length-laid at bs out h = simp length-append (omega (arith, length-take-le at out (omega arith), length-drop (at + length bs) out))

module _ (at : ℕ) (xs bs out : List ℕ) (h : at + length xs + length bs ≤ length out) where
  abbrev front : List ℕ
  front = take at out ++ xs

  abbrev end : ℕ
  end = at + length xs

  length_front : length front ≡ end
  length_front = simp length-append (omega (arith, length-take-le at out (omega arith)))

  total : end + length bs ≡ at + length (xs ++ bs)
  total = simp length-append (omega arith)

  behind : drop (end + length bs) (front ++ drop end out) ≡ drop (at + length (xs ++ bs)) out
  behind =
      sym (drop-drop (length bs) end (front ++ drop end out))
      ∙ ap (drop (length bs)) (drop_at front (drop end out) end length_front)
      ∙ drop-drop (length bs) end out
      ∙ ap (λ k. drop k out) total

  pub laid_laid : laid (at + length xs) bs (laid at xs out) ≡ laid at (xs ++ bs) out
  unfolding laid
  laid_laid = rw (take_at front (drop end out) end length_front, behind, append_assoc (take at out) xs bs)

pub mid_laid : (at : ℕ) (bs out : List ℕ) → take at out ++ (bs ++ drop (length bs) (drop at out)) ≡ laid at bs out
unfolding laid
mid_laid at bs out = rw (drop-drop (length bs) at out) (sym (append_assoc (take at out) bs (drop (at + length bs) out)))

-- ---- bytes that fit, and bytes that do not

module _ (bs : List ℕ) (at : ℕ) (out : List ℕ) where
  pub fits : at + length bs ≤ length out → accept (at + length bs, laid at bs out) ≡ placed bs (at, out)
  unfolding placed
  fits h = sym (rw (le-leb (at + length bs) (length out) h))

  pub too_long : length out < at + length bs → refuse 10 ≡ placed bs (at, out)
  unfolding placed
  too_long h = sym (rw (lt-leb (at + length bs) (length out) h))

  -- so it is told whether they fit, and what is there then
  pub fitted : (p : Page) → accept p ≡ placed bs (at, out) → (at + length bs ≤ length out) × (◌≡◌ {A = Page} p (at + length bs, laid at bs out))
  fitted p e = go (side (length out) (at + length bs))
    where
      go : (length out < at + length bs) ⊎ (at + length bs ≤ length out) → (at + length bs ≤ length out) × (◌≡◌ {A = Page} p (at + length bs, laid at bs out))
      go (inl h) = let f : ◌≡◌ {A = Result Page} (accept p) (refuse 10) = e ∙ sym (too_long h) in cc
      go (inr h) = let f : ◌≡◌ {A = Result Page} (accept p) (accept (at + length bs, laid at bs out)) = e ∙ sym (fits h) in (h, cc)

  pub full : (k : ℕ) → refuse k ≡ placed bs (at, out) → (k ≡ 10) × (length out < at + length bs)
  full k e = go (side (length out) (at + length bs))
    where
      go : (length out < at + length bs) ⊎ (at + length bs ≤ length out) → (k ≡ 10) × (length out < at + length bs)
      go (inl h) = let f : ◌≡◌ {A = Result Page} (refuse k) (refuse 10) = e ∙ sym (too_long h) in (cc, h)
      go (inr h) = let f : ◌≡◌ {A = Result Page} (refuse k) (accept (at + length bs, laid at bs out)) = e ∙ sym (fits h) in cc

laid_none : (at : ℕ) (out : List ℕ) → laid at [] out ≡ out
unfolding laid
laid_none at out = rw (add-zero at, append-nil (take at out)) (take-append-drop at out)

-- no bytes fit where there is a place
pub place_none : (at : ℕ) (out : List ℕ) → at ≤ length out → placed [] (at, out) ≡ accept (at, out)
place_none at out h = sym (fits [] at out (omega arith)) ∙ ap (λ (p : Page). accept p) (ap (λ (n : ℕ). (n, laid at [] out)) (add-zero at) ∙ ap (λ (o : List ℕ). (at, o)) (laid_none at out))

-- ---- one behind another

pub placed_append : (xs ys : List ℕ) (at : ℕ) (out : List ℕ) → (placed xs (at, out) >>= placed ys) ≡ placed (xs ++ ys) (at, out)
placed_append xs ys at out = go (side (length out) (at + length xs)) (side (length out) (at + length (xs ++ ys)))
  where
    long : length (xs ++ ys) ≡ length xs + length ys
    long = length-append xs ys

    go : (length out < at + length xs) ⊎ (at + length xs ≤ length out) → (length out < at + length (xs ++ ys)) ⊎ (at + length (xs ++ ys) ≤ length out) → (placed xs (at, out) >>= placed ys) ≡ placed (xs ++ ys) (at, out)
    go (inl h) k = ap (λ r. r >>= placed ys) (sym (too_long xs at out h)) ∙ too_long (xs ++ ys) at out (omega (arith, long))
    go (inr h) (inl k) = ap (λ r. r >>= placed ys) (sym (fits xs at out h)) ∙ sym (too_long ys (at + length xs) (laid at xs out) (omega (arith, long, length-laid at xs out h))) ∙ too_long (xs ++ ys) at out k
    go (inr h) (inr k) =
        let e : at + length xs + length ys ≡ at + length (xs ++ ys) = omega (arith, long) in
        ap (λ r. r >>= placed ys) (sym (fits xs at out h)) ∙ sym (fits ys (at + length xs) (laid at xs out) (omega (arith, long, length-laid at xs out h))) ∙ rw (e, laid_laid at xs ys out (omega (arith, long))) (fits (xs ++ ys) at out k)

-- what is placed behind a page that was reached, and behind one that was not
module _ (xs ys : List ℕ) (p : Page) where
  pub place_more : (q : Page) → accept q ≡ placed xs p → placed ys q ≡ placed (xs ++ ys) p
  place_more q e = ap (λ r. r >>= placed ys) e ∙ placed_append xs ys p.0 p.1

  pub place_stop : (n : ℕ) → refuse n ≡ placed xs p → refuse n ≡ placed (xs ++ ys) p
  place_stop n e = ap (λ r. r >>= placed ys) e ∙ placed_append xs ys p.0 p.1

-- bytes, or numbers, behind a page that was reached
unfoldable pub then_put : (List ℕ → Page → Result Page) → Result Page → List ℕ → Result Page
then_put put r ns = r >>= put ns

pub then_on : (put : List ℕ → Page → Result Page) (q : Page) (ns : List ℕ) → then_put put (accept q) ns ≡ put ns q
unfolding then_put
then_on put q ns = refl

pub then_stop : (put : List ℕ → Page → Result Page) (k : ℕ) (ns : List ℕ) → then_put put (refuse k) ns ≡ refuse k
unfolding then_put
then_stop put k ns = refl

pub put_none : (p : Page) → put_all [] p ≡ accept p
unfolding put_all
put_none p = refl

pub put_one : (n : ℕ) (p : Page) → put_all (n ∷ []) p ≡ placed (bytes_of n) p
unfolding put_all
put_one n p = go (placed (bytes_of n) p)
  where
    go : (r : Result Page) → (r >>= λ p. accept p) ≡ r
    go (accept q) = refl
    go (refuse k) = refl

pub put_first : (n : ℕ) (ns : List ℕ) (p : Page) → put_all (n ∷ ns) p ≡ then_put put_all (put_all (n ∷ []) p) ns
unfolding put_all then_put
put_first n ns p = go (placed (bytes_of n) p)
  where
    go : (r : Result Page) → (r >>= put_all ns) ≡ (r >>= (λ p. accept p) >>= put_all ns)
    go (accept q) = refl
    go (refuse k) = refl

pub put_append : (xs ys : List ℕ) (p : Page) → put_all (xs ++ ys) p ≡ then_put put_all (put_all xs p) ys
unfolding put_all then_put
put_append [] ys p = refl
put_append (x ∷ xs) ys p = go (placed (bytes_of x) p) (λ q. put_append xs ys q)
  where
    go : (r : Result Page) → ((q : Page) → put_all (xs ++ ys) q ≡ then_put put_all (put_all xs q) ys) → (r >>= put_all (xs ++ ys)) ≡ (r >>= put_all xs >>= put_all ys)
    go (accept q) h = h q
    go (refuse k) h = refl

-- what is put by one call behind another
pub ruleset writing = (put_none, put_one, put_first, put_append, then_on, then_stop)

-- the numbers of the items from a place on: those of the next, and of the ones behind it
module _ {A B : Type 0} (w : B → List ℕ) (v : A → B) (xs : List A) where
  abbrev from : ℕ → List ℕ
  from i = flat_map w (map v (drop i xs))

  pub each_none : (i : ℕ) (p : Page) → length xs ≤ i → put_all (from i) p ≡ accept p
  unfolding flat_map put_all
  each_none i p h = rw (drop_all i xs h) refl

  module _ (i : ℕ) (d x : A) (h : i < length xs) (e : get_or xs i d ≡ x) where
    next : from i ≡ w (v x) ++ from (i + 1)
    unfolding flat_map
    next = rw (drop-cons xs i d h, e, add-one i) refl

    behind_next : (p : Page) → put_all (from i) p ≡ then_put put_all (put_all (w (v x)) p) (from (i + 1))
    behind_next p = ap (λ ns. put_all ns p) next ∙ put_append (w (v x)) (from (i + 1)) p

    pub each_more : (p q : Page) → accept q ≡ put_all (w (v x)) p → put_all (from (i + 1)) q ≡ put_all (from i) p
    unfolding then_put
    each_more p q k = ap (λ r. then_put put_all r (from (i + 1))) k ∙ sym (behind_next p)

    pub each_stop : (n : ℕ) (p : Page) → refuse n ≡ put_all (w (v x)) p → refuse n ≡ put_all (from i) p
    unfolding then_put
    each_stop n p k = ap (λ r. then_put put_all r (from (i + 1))) k ∙ sym (behind_next p)

-- all of them at once
pub put_placed : (n : ℕ) (ns : List ℕ) (at : ℕ) (out : List ℕ) → put_all (n ∷ ns) (at, out) ≡ placed (in_bytes (n ∷ ns)) (at, out)
unfolding in_bytes flat_map put_all
put_placed n [] at out = put_one n (at, out) ∙ ap (λ bs. placed bs (at, out)) (sym (append-nil (bytes_of n)))
put_placed n (m ∷ ns) at out = go (placed (bytes_of n) (at, out)) (λ q. put_placed m ns q.0 q.1) ∙ placed_append (bytes_of n) (in_bytes (m ∷ ns)) at out
  where
    go : (r : Result Page) → ((q : Page) → put_all (m ∷ ns) q ≡ placed (in_bytes (m ∷ ns)) q) → (r >>= put_all (m ∷ ns)) ≡ (r >>= placed (in_bytes (m ∷ ns)))
    go (accept q) h = h q
    go (refuse k) h = refl
