-- Places and their numbers. The list reader's openings are listed newest first, as they are noted; the node of an opening is
-- its position from the back of that list, after the sixteen roots. So a node's number is a function of the mappings, it
-- never changes when openings are added, and a map call that makes its nodes one after another makes them in this order.
use Rattle.std.specs.Prelude.{if◌then◌else◌}
use Prim.Native.Nat.{ℕ, ◌+◌, ◌<◌, ◌≤◌}
use native.Mathlib.Omega.{arith}
use mathlib.Core.Path.{◌≡◌, refl, sym, ap, ap₂, ◌∙◌, fun_ext}
use mathlib.Core.Bool.{Bool, true, false}
use mathlib.Core.Option.{Option, none, some}
use mathlib.Core.List.{List, [], ◌∷◌, ◌++◌, map, append_assoc, head-eq_of_cons-eq, tail-eq_of_cons-eq, concat-ne-nil}
use mathlib.Core.Logic.{◌⊎◌, inl, inr}
use lib.Dec.{T, leb, ltb, nltb→le, leb→le, le→leb}
use lib.ListN.{length}
use Rattle.rules.specs.Basics.{Result, accept, ◌>>=◌, unless, some_of, is_there, or_else}
use Rattle.rules.specs.Values.{mode_count, most_nodes, is_mode, Event}
use Rattle.rules.specs.ListReader.{Mapping, Place, place, same_place, starts, openings_of, is_among, note, note_all, openings, last_of, exactly_at, step_at, fall_at, further}
use Rattle.rules.proofs.Tests.{true_lt, by_cases, no_way, void, T-is, is_T, place_is, not_there}

-- ---- a place and then events

abbrev pub along : Place → List Event → Place
along a p = place a.mode (a.path ++ p)

pub along_further : (a : Place) (e : Event) (p : List Event) → along (further a e) p ≡ along a (e ∷ p)
along_further a e p = ap (place a.mode) (append_assoc a.path (e ∷ []) p)

-- the places that one comes to after each of the events
abbrev pub chain : Place → List Event → List Place
chain a [] = []
chain a (e ∷ p) = further a e ∷ chain (further a e) p

snoc_is : (p q : List Event) (d e : Event) → p ++ (d ∷ []) ≡ q ++ (e ∷ []) → (p ≡ q) × (d ≡ e)
snoc_is [] [] d e h = (refl, head-eq_of_cons-eq h)
snoc_is [] (y ∷ q) d e h = absurd (concat-ne-nil e q (sym (tail-eq_of_cons-eq h)))
snoc_is (x ∷ p) [] d e h = absurd (concat-ne-nil d p (tail-eq_of_cons-eq h))
snoc_is (x ∷ p) (y ∷ q) d e h = let k = snoc_is p q d e (tail-eq_of_cons-eq h) in (ap₂ (λ z zs. z ∷ zs) (head-eq_of_cons-eq h) k.0, k.1)

pub further_is : (a b : Place) (d e : Event) → same_place (further a d) (further b e) ≡ true → (a ≡ b) × (d ≡ e)
further_is a b d e h =
    let s = place_is (further a d) (further b e) h in
    let k = snoc_is a.path b.path d e (ap (λ (x : Place). x.path) s) in
    (ap₂ place (ap (λ (x : Place). x.mode) s) k.0, k.1)

-- ---- the number of a place

-- a root's is its mode
abbrev pub root_number : ℕ → List Event → Option ℕ
root_number m [] = if is_mode m then some m else none
root_number m (e ∷ p) = none

abbrev pub number : Place → List Place → Option ℕ
number a [] = root_number a.mode a.path
number a (x ∷ ds) = if same_place a x then some (mode_count + length ds) else number a ds

pub no_root : (m : ℕ) (p : List Event) (e : Event) (r : List Event) → root_number m (p ++ (e ∷ r)) ≡ none
no_root m [] e r = refl
no_root m (d ∷ p) e r = refl

pub root_number_lem : (m : ℕ) → T (is_mode m) → number (place m []) [] ≡ some m
root_number_lem m h = rw (is_T (is_mode m) h)

pub root_is : (m : ℕ) (p : List Event) (i : ℕ) → root_number m p ≡ some i → (p ≡ []) × (m ≡ i) × (m < mode_count)
root_is m [] i h =
    by_cases (is_mode m)
    (λ e. let k : some m ≡ some i = rw e at h in (refl, cc, true_lt m mode_count e))
    (λ e. let k : none ≡ some i = rw e at h in void k)
root_is m (e ∷ p) i h = void h

pub number_below : (a : Place) (ds : List Place) (i : ℕ) → number a ds ≡ some i → i < mode_count + length ds
number_below a [] i h = let k = root_is a.mode a.path i h in omega (arith, k.1, k.2)
number_below a (x ∷ ds) i h =
    by_cases (same_place a x)
    (λ e. let k : some (mode_count + length ds) ≡ some i = rw e at h in let n : mode_count + length ds ≡ i = cc in omega arith)
    (λ e. let k : i < mode_count + length ds = number_below a ds i (rw e at h) in omega arith)

pub number_is : (a b : Place) (ds : List Place) (i : ℕ) → number a ds ≡ some i → number b ds ≡ some i → a ≡ b
number_is a b [] i h k =
    let u = root_is a.mode a.path i h in
    let v = root_is b.mode b.path i k in
    ap₂ place (u.1 ∙ sym v.1) (u.0 ∙ sym v.0)
number_is a b (x ∷ ds) i h k =
    by_cases (same_place a x)
    (λ s. by_cases (same_place b x) (λ t. place_is a x s ∙ sym (place_is b x t)) (λ t. clash b (rw s at h) (rw t at k)))
    (λ s. by_cases (same_place b x) (λ t. clash a (rw t at k) (rw s at h)) (λ t. number_is a b ds i (rw s at h) (rw t at k)))
  where
    clash : (c : Place) → some (mode_count + length ds) ≡ some i → number c ds ≡ some i → a ≡ b
    clash c u v = let n : mode_count + length ds ≡ i = cc in absurd (omega (arith, number_below c ds i v))

-- one place more
pub number_cons : (a x : Place) (ds : List Place) (i : ℕ) → number a ds ≡ some i → number x ds ≡ none → number a (x ∷ ds) ≡ some i
number_cons a x ds i h k =
    by_cases (same_place a x)
    (λ e. void (sym k ∙ ap (λ y. number y ds) (sym (place_is a x e)) ∙ h))
    (λ e. rw e h)

pub number_uncons : (a x : Place) (ds : List Place) (i : ℕ) → number a (x ∷ ds) ≡ some i → ((a ≡ x) × (i ≡ mode_count + length ds)) ⊎ (number a ds ≡ some i)
number_uncons a x ds i h =
    by_cases (same_place a x)
    (λ e. let k : some (mode_count + length ds) ≡ some i = rw e at h in inl (place_is a x e, cc))
    (λ e. inr (rw e at h))

pub number_none : (a x : Place) (ds : List Place) → number a (x ∷ ds) ≡ none → number a ds ≡ none
number_none a x ds h =
    by_cases (same_place a x)
    (λ e. let k : some (mode_count + length ds) ≡ none = rw e at h in void (sym k))
    (λ e. rw e at h)

-- a place beyond a root is an opening exactly if it has a number
pub among_number : (a : Place) (ds : List Place) → number a [] ≡ none → is_among a ds ≡ is_there (number a ds)
unfolding is_among some_of
among_number a [] h = rw h
among_number a (x ∷ ds) h = by_cases (same_place a x) (λ e. rw e) (λ e. rw e (among_number a ds h))

pub not_among : (a : Place) (ds : List Place) → number a [] ≡ none → is_among a ds ≡ false → number a ds ≡ none
not_among a ds h k = not_there (number a ds) (sym (among_number a ds h) ∙ k)

-- ---- how many places have a value

abbrev once_if : Bool → ℕ
once_if true = 1
once_if false = 0

abbrev pub count : (Place → Option ℕ) → List Place → ℕ
count f [] = 0
count f (x ∷ ds) = once_if (is_there (f x)) + count f ds

once_mono : (a b : Bool) → (a ≡ true → b ≡ true) → once_if a ≤ once_if b
once_mono true b h = rw (h refl) (omega arith)
once_mono false b h = omega arith

pub count_le : (f : Place → Option ℕ) (ds : List Place) → count f ds ≤ length ds
count_le f [] = omega arith
count_le f (x ∷ ds) = omega (arith, once_mono (is_there (f x)) true (λ _. refl), count_le f ds)

module _ (f g : Place → Option ℕ) (h : (a : Place) → is_there (f a) ≡ true → is_there (g a) ≡ true) where
  pub count_mono : (ds : List Place) → count f ds ≤ count g ds
  count_mono [] = omega arith
  count_mono (x ∷ ds) = omega (arith, once_mono (is_there (f x)) (is_there (g x)) (h x), count_mono ds)

  -- a value more, at a place that is there and had none
  pub count_more : (a : Place) (ds : List Place) → is_among a ds ≡ true → f a ≡ none → is_there (g a) ≡ true → count f ds < count g ds
  unfolding is_among some_of
  count_more a [] k n y = no_way k
  count_more a (x ∷ ds) k n y =
      by_cases (same_place a x)
      (λ e. rw (rw (place_is a x e) at n, rw (place_is a x e) at y) (omega (arith, count_mono ds)))
      (λ e. let m : count f ds < count g ds = count_more a ds (rw e at k) n y in omega (arith, once_mono (is_there (f x)) (is_there (g x)) (h x)))

-- ---- openings noted, all at once and one after another

noted_keeps : (a x : Place) (ds : List Place) (i : ℕ) → number x [] ≡ none → number a ds ≡ some i → number a (if is_among x ds then ds else x ∷ ds) ≡ some i
noted_keeps a x ds i k h = by_cases (is_among x ds) (λ e. rw e h) (λ e. rw e (number_cons a x ds i h (not_among x ds k e)))

pub note_keeps : (a b : Place) (p : List Event) (ds : List Place) (i : ℕ) → number a ds ≡ some i → number a (note (chain b p) ds) ≡ some i
unfolding note
note_keeps a b [] ds i h = h
note_keeps a b (e ∷ p) ds i h = note_keeps a (further b e) p _ i (noted_keeps a (further b e) ds i (no_root b.mode b.path e []) h)

note_longer : (bs ds : List Place) → length ds ≤ length (note bs ds)
unfolding note
note_longer [] ds = omega arith
note_longer (x ∷ bs) ds = by_cases (is_among x ds) (λ e. rw e (note_longer bs ds)) (λ e. rw e (omega (arith, note_longer bs (x ∷ ds))))

-- 2 where a new opening would pass 1,024
abbrev pub admit_one : Place → List Place → Result (List Place)
admit_one a ds = if is_among a ds then accept ds else unless (ltb (length ds) most_nodes) 2 (accept (a ∷ ds))

abbrev pub admit : List Place → List Place → Result (List Place)
admit [] ds = accept ds
admit (a ∷ bs) ds = admit_one a ds >>= admit bs

over : (n : ℕ) → most_nodes < n → leb n most_nodes ≡ false
over n h = by_cases (leb n most_nodes) (λ b. absurd (omega (arith, leb→le n most_nodes (T-is b)))) (λ b. b)

-- the count of all decides whether one after another has room
pub admit_count : (bs ds : List Place) → length ds ≤ most_nodes → admit bs ds ≡ unless (leb (length (note bs ds)) most_nodes) 2 (accept (note bs ds))
unfolding note
admit_count [] ds h = rw (is_T (leb (length ds) most_nodes) (le→leb (length ds) most_nodes h))
admit_count (x ∷ bs) ds h =
    by_cases (is_among x ds)
    (λ m. rw m (admit_count bs ds h))
    (λ m. by_cases (ltb (length ds) most_nodes)
    (λ l. simp (m, l) (admit_count bs (x ∷ ds) (true_lt (length ds) most_nodes l)))
    (λ l. simp (m, l, over (length (note bs (x ∷ ds))) (omega (arith, note_longer bs (x ∷ ds), nltb→le (length ds) most_nodes (rw l tt))))))

-- ---- the openings, the steps and the fallthrough modes after one mapping more

note_all_snoc : (xs : List Mapping) (x : Mapping) (ds : List Place) → note_all (xs ++ (x ∷ [])) ds ≡ note (openings_of x) (note_all xs ds)
unfolding note_all
note_all_snoc [] x ds = refl
note_all_snoc (y ∷ xs) x ds = note_all_snoc xs x (note (openings_of y) ds)

map_starts : (a : Place) (p : List Event) → map (along a) (starts p) ≡ chain a p
unfolding starts
map_starts a [] = refl
map_starts a (e ∷ p) = ap (λ r. further a e ∷ r) (under (starts p) ∙ map_starts (further a e) p)
  where
    under : (qs : List (List Event)) → map (along a) (map (λ q. e ∷ q) qs) ≡ map (along (further a e)) qs
    under [] = refl
    under (q ∷ qs) = ap₂ (λ r rs. r ∷ rs) (sym (along_further a e q)) (under qs)

pub openings_snoc : (xs : List Mapping) (x : Mapping) → openings (xs ++ (x ∷ [])) ≡ note (chain (place x.mode []) x.path) (openings xs)
unfolding openings openings_of
openings_snoc xs x = note_all_snoc xs x [] ∙ ap (λ bs. note bs (note_all xs [])) (map_starts (place x.mode []) x.path)

or_assoc : {A : Type 0} (a b c : Option A) → or_else (or_else a b) c ≡ or_else a (or_else b c)
or_assoc none b c = refl
or_assoc (some x) b c = refl

pub or_none : {A : Type 0} (a : Option A) → or_else a none ≡ a
or_none none = refl
or_none (some x) = refl

last_of_snoc : {A : Type 0} (f : Mapping → Option A) (xs : List Mapping) (x : Mapping) → last_of f (xs ++ (x ∷ [])) ≡ or_else (f x) (last_of f xs)
unfolding last_of
last_of_snoc f [] x = sym (or_none (f x))
last_of_snoc f (y ∷ xs) x = ap (λ o. or_else o (f y)) (last_of_snoc f xs x) ∙ or_assoc (f x) (last_of f xs) (f y)

-- what is known at places, and now o at one of them, if o is there
abbrev pub changed : {A : Type 0} → (Place → Option A) → Place → Option A → Place → Option A
changed f a o b = or_else (if same_place b a then o else none) (f b)

pub step_snoc : (xs : List Mapping) (x : Mapping) → step_at (xs ++ (x ∷ [])) ≡ changed (step_at xs) (place x.mode x.path) (some x.step)
unfolding step_at exactly_at
step_snoc xs x = fun_ext (λ b. last_of_snoc _ xs x)

pub fall_snoc : (xs : List Mapping) (x : Mapping) → fall_at (xs ++ (x ∷ [])) ≡ changed (fall_at xs) (place x.mode x.path) x.step.fallthrough
unfolding fall_at exactly_at
fall_snoc xs x = fun_ext (λ b. last_of_snoc _ xs x)
