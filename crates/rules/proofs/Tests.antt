-- The tests of the definitions decide what they say: each holds exactly where its two sides are equal, by cases on them.
use Prim.Native.Nat.{ℕ, suc, ◌<◌}
use native.Mathlib.Omega.{arith}
use mathlib.Core.Path.{◌≡◌, refl, sym, ap, ap₂, subst}
use mathlib.Core.Bool.{Bool, true, false, ◌&&◌, ◌||◌, true≢false, false≢true}
use mathlib.Core.Option.{Option, none, some}
use mathlib.Core.List.{List, [], ◌∷◌}
use mathlib.Core.Logic.{◌⊎◌, inl, inr}
use lib.Dec.{T, eqb, ltb, eqb→eq, eqb_refl, lt→ltb, ltb→lt}
use Rattle.rules.specs.Basics.{is_there}
use Rattle.rules.specs.Values.{Event, Key, Class, Any, Fallthrough, same_event}
use Rattle.rules.specs.ListReader.{Place, place, same_path, same_place}

-- ---- Bool

pub by_cases : {X : Type 0} (b : Bool) → (b ≡ true → X) → (b ≡ false → X) → X
by_cases true h k = h refl
by_cases false h k = k refl

pub no_way : {X : Type 0} → false ≡ true → X
no_way h = absurd (false≢true h)

pub T-is : {b : Bool} → b ≡ true → T b
T-is e = subst T (sym e) tt

pub is_T : (b : Bool) → T b → b ≡ true
is_T true t = refl
is_T false t = absurd t

pub T_and : (a b : Bool) → T (a && b) → T a × T b
T_and true b t = (tt, t)
T_and false b t = absurd t

pub and_T : (a b : Bool) → T a → T b → T (a && b)
and_T true b s t = t
and_T false b s t = absurd s

pub and_l : (a b : Bool) → (a && b) ≡ true → a ≡ true
and_l true b e = refl
and_l false b e = e

pub and_r : (a b : Bool) → (a && b) ≡ true → b ≡ true
and_r true b e = e
and_r false b e = no_way e

pub and_false : (a b : Bool) → (a ≡ true → b ≡ true → ⊥) → (a && b) ≡ false
and_false true true h = absurd (h refl refl)
and_false true false h = refl
and_false false b h = refl

pub or_r : (a b : Bool) → b ≡ true → (a || b) ≡ true
or_r true b h = refl
or_r false b h = h

pub or_cases : (a b : Bool) → (a || b) ≡ true → (a ≡ true) ⊎ (b ≡ true)
or_cases true b h = inl refl
or_cases false b h = inr h

pub both_ways : (a b : Bool) → (a ≡ true → b ≡ true) → (b ≡ true → a ≡ true) → a ≡ b
both_ways true b h k = sym (h refl)
both_ways false true h k = k refl
both_ways false false h k = refl

-- ---- what may be missing

pub void : {A X : Type 0} {a : A} → none ≡ some a → X
void {A} {X} {a} h = no_way (ap (is_there {A = A}) h)

pub there_is : {A : Type 0} (o : Option A) → is_there o ≡ true → (x : A) × (o ≡ some x)
there_is none h = no_way h
there_is (some x) h = (x, refl)

pub not_there : {A : Type 0} (o : Option A) → is_there o ≡ false → o ≡ none
not_there none h = refl
not_there (some x) h = absurd (true≢false h)

-- ---- numbers, events, paths, places

pub eqb_is : (m n : ℕ) → eqb m n ≡ true → m ≡ n
eqb_is m n e = eqb→eq m n (T-is e)

pub eqb_same : (m : ℕ) → eqb m m ≡ true
eqb_same m = is_T (eqb m m) (eqb_refl m)

pub lt_true : (m n : ℕ) → m < n → ltb m n ≡ true
lt_true m n h = is_T (ltb m n) (lt→ltb m n h)

pub true_lt : (m n : ℕ) → ltb m n ≡ true → m < n
true_lt m n e = ltb→lt m n (T-is e)

pub ltb_first : (n : ℕ) → ltb 0 (suc n) ≡ true
ltb_first n = lt_true 0 (suc n) (omega arith)

pub ltb_suc : (a b : ℕ) → ltb (suc a) (suc b) ≡ ltb a b
ltb_suc a b =
    both_ways (ltb (suc a) (suc b)) (ltb a b)
    (λ e. let h = true_lt (suc a) (suc b) e in lt_true a b (omega arith))
    (λ e. let h = true_lt a b e in lt_true (suc a) (suc b) (omega arith))

pub event_is : (d e : Event) → same_event d e ≡ true → d ≡ e
unfolding same_event
event_is (Key a) e = elim e as (λ x. same_event (Key a) x ≡ true → Key a ≡ x) [ Key b ↦ λ h. ap Key (eqb_is a b h) | Class b ↦ no_way | Any ↦ no_way | Fallthrough ↦ no_way ]
event_is (Class a) e = elim e as (λ x. same_event (Class a) x ≡ true → Class a ≡ x) [ Key b ↦ no_way | Class b ↦ λ h. ap Class (eqb_is a b h) | Any ↦ no_way | Fallthrough ↦ no_way ]
event_is Any e = elim e as (λ x. same_event Any x ≡ true → Any ≡ x) [ Key b ↦ no_way | Class b ↦ no_way | Any ↦ λ h. refl | Fallthrough ↦ no_way ]
event_is Fallthrough e = elim e as (λ x. same_event Fallthrough x ≡ true → Fallthrough ≡ x) [ Key b ↦ no_way | Class b ↦ no_way | Any ↦ no_way | Fallthrough ↦ λ h. refl ]

pub event_same : (e : Event) → same_event e e ≡ true
unfolding same_event
event_same (Key a) = eqb_same a
event_same (Class a) = eqb_same a
event_same Any = refl
event_same Fallthrough = refl

path_is : (p q : List Event) → same_path p q ≡ true → p ≡ q
unfolding same_path
path_is [] [] h = refl
path_is [] (e ∷ q) h = no_way h
path_is (d ∷ p) [] h = no_way h
path_is (d ∷ p) (e ∷ q) h =
    ap₂ (λ x xs. x ∷ xs) (event_is d e (and_l (same_event d e) (same_path p q) h)) (path_is p q (and_r (same_event d e) (same_path p q) h))

path_same : (p : List Event) → same_path p p ≡ true
unfolding same_path
path_same [] = refl
path_same (e ∷ p) = rw (event_same e) (path_same p)

pub place_is : (a b : Place) → same_place a b ≡ true → a ≡ b
unfolding same_place
place_is a b h =
    ap₂ place (eqb_is a.mode b.mode (and_l (eqb a.mode b.mode) (same_path a.path b.path) h))
    (path_is a.path b.path (and_r (eqb a.mode b.mode) (same_path a.path b.path) h))

pub place_same : (a : Place) → same_place a a ≡ true
unfolding same_place
place_same a = rw (eqb_same a.mode) (path_same a.path)
