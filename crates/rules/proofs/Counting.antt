-- Document 02, request (iv): digits of class 0, one after another, count to the number that they write behind the count that was
-- there; if that is over 65,535, one of them is refused with 12. Why it is so: a further digit makes a number no smaller, so
-- once it is over 65,535 it stays so.
use Prim.Native.Nat.{ℕ, ◌+◌, ◌-◌, ◌*◌, ◌≤◌, ◌<◌}
use native.Mathlib.Omega.{arith}
use mathlib.Core.Path.{◌≡◌, refl}
use mathlib.Core.Bool.{Bool, true}
use mathlib.Core.List.{List, [], ◌∷◌}
use mathlib.Core.Logic.{◌⊎◌, inl, inr}
use lib.Dec.{leb}
use borrow.Author.Tests.{le-leb, lt-leb}
use Rattle.rules.specs.Basics.{Result, accept, ◌>>=◌, unless}
use Rattle.rules.specs.Values.{largest, Class, Context, counted, hook}
use Rattle.rules.proofs.Numbers.{side}
use Rattle.rules.proofs.Weights.{Each}

-- the keys of these digits, each going by class 0
abbrev pub count_digits : List ℕ → Context → Result Context
count_digits [] c = accept c
count_digits (d ∷ ds) c = hook (Class 0) (48 + d) c >>= count_digits ds

-- the number that digits write, behind one that is there
abbrev pub written_behind : ℕ → List ℕ → ℕ
written_behind n [] = n
written_behind n (d ∷ ds) = written_behind (n * 10 + d) ds

-- whether the count is typed behind them: with any digit it is
abbrev pub typed_behind : Bool → List ℕ → Bool
typed_behind typed [] = typed
typed_behind typed (d ∷ ds) = true

-- what is typed stays so
stays_typed : (ds : List ℕ) → typed_behind true ds ≡ true
stays_typed [] = refl
stays_typed (d ∷ ds) = refl

-- a further digit makes it no smaller
grows : (n : ℕ) (ds : List ℕ) → n ≤ written_behind n ds
grows n [] = omega arith
grows n (d ∷ ds) = omega (arith, grows (n * 10 + d) ds)

-- a digit's key by class 0 is the count step
digit_counts : (d : ℕ) (c : Context) → d ≤ 9 → hook (Class 0) (48 + d) c ≡ counted d c
unfolding hook
digit_counts d c h = let e : 48 + d - 48 ≡ d = omega arith in rw (le-leb 48 (48 + d) (omega arith), le-leb (48 + d) 57 (omega arith), e) refl

pub digits_count_or_overflow : (ds : List ℕ) → Each (λ d. d ≤ 9) ds → (c : Context) → c.count ≤ largest → let n = written_behind c.count ds in
    count_digits ds c ≡ unless (leb n largest) 12 (accept (record { count = n; typed = typed_behind c.typed ds; mark = c.mark }))
unfolding counted
digits_count_or_overflow [] h c l = rw (le-leb c.count largest l) refl
digits_count_or_overflow (d ∷ ds) h c l = rw (digit_counts d c h.0) (go (side largest next) (λ fits. rw (stays_typed ds) at (digits_count_or_overflow ds h.1 with_digit fits)))
  where
    next : ℕ
    next = c.count * 10 + d

    with_digit : Context
    with_digit = record { count = next; typed = true; mark = c.mark }

    all : Result Context
    all = let n = written_behind next ds in unless (leb n largest) 12 (accept (record { count = n; typed = true; mark = c.mark }))

    go : (largest < next) ⊎ (next ≤ largest) → (next ≤ largest → count_digits ds with_digit ≡ all) → (unless (leb next largest) 12 (accept with_digit) >>= count_digits ds) ≡ all
    go (inl over) on = rw (lt-leb next largest over, lt-leb (written_behind next ds) largest (omega (arith, over, grows next ds))) refl
    go (inr fits) on = rw (le-leb next largest fits) (on fits)
