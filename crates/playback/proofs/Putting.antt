-- Nothing is put anywhere within the bytes, what was put ends within them, and a number's digits are put one behind another. A text
-- that was put from the front on, or zeros where it did not fit, is what it comes to in lent bytes.
use Rattle.std.specs.Prelude.{if◌then◌else◌}
use Prim.Native.Nat.{ℕ, zero, suc, ◌+◌, ◌-◌, ◌/◌, ◌%◌, ◌≤◌, ◌<◌}
use native.Mathlib.Omega.{arith}
use native.Mathlib.Nat.{add-zero, zero-add}
use native.Mathlib.Numerals.{sub-one}
use mathlib.Core.Path.{◌≡◌, refl, sym, ap, ◌∙◌, subst}
use mathlib.Core.List.{List, [], ◌∷◌, ◌++◌, append-nil}
use mathlib.Core.Bool.{Bool, true, false}
use lib.Dec.{ltb}
use lib.ListN.{length, take, drop, length-append, take-append-drop, replicate}
use borrow.Author.Tests.{ltb-false, lt-ltb, le-ltb, le-leb, lt-leb}
use Rattle.rules.specs.Basics.{Result, accept, refuse}
use Rattle.rules.specs.Run.{decimal}
use Rattle.mapparts.specs.View.{laid, Page, placed}
use Rattle.mapparts.proofs.Writing.{fits, length-laid, fitted, full}
use Rattle.playback.specs.View.{printed}

-- ---- a page that was reached

pub put_within : (bs : List ℕ) (at : ℕ) (out : List ℕ) (q : Page) → accept q ≡ placed bs (at, out) → q.0 ≤ length q.1
put_within bs at out q e = let f = fitted bs at out q e in subst (λ (q : Page). q.0 ≤ length q.1) (sym f.1) (omega (arith, length-laid at bs out f.0))

-- ---- digits

-- a digit more than those before it, if there are any
pub decimal_step : (most n k : ℕ) → (10 ≤ n → length (decimal most (n / 10)) ≤ k) → length (decimal (suc most) n) ≤ suc k
unfolding decimal
decimal_step most n k h = go (ltb n 10) (λ e. h (ltb-false n 10 e)) refl
  where
    go : (t : Bool) → (ltb n 10 ≡ false → length (decimal most (n / 10)) ≤ k) → ltb n 10 ≡ t → length ((if t then [] else decimal most (n / 10)) ++ ((48 + n % 10) ∷ [])) ≤ suc k
    go true h e = omega arith
    go false h e = omega (arith, h e, length-append (decimal most (n / 10)) ((48 + n % 10) ∷ []))

pub decimal_short : (most n : ℕ) → length (decimal most n) ≤ most
unfolding decimal
decimal_short zero n = omega arith
decimal_short (suc most) n = decimal_step most n most (λ h. decimal_short most (n / 10))

module _ (most n : ℕ) (here : most ≡ 0 → ⊥) where
  pub one_digit : n < 10 → decimal most n ≡ (48 + n % 10) ∷ []
  unfolding decimal
  one_digit h = go most here
    where
      go : (most : ℕ) → (most ≡ 0 → ⊥) → decimal most n ≡ (48 + n % 10) ∷ []
      go zero here = absurd (here refl)
      go (suc k) here = rw (lt-ltb n 10 h)

  pub more_digits : 10 ≤ n → decimal most n ≡ decimal (most - 1) (n / 10) ++ ((48 + n % 10) ∷ [])
  unfolding decimal
  more_digits h = go most here
    where
      go : (most : ℕ) → (most ≡ 0 → ⊥) → decimal most n ≡ decimal (most - 1) (n / 10) ++ ((48 + n % 10) ∷ [])
      go zero here = absurd (here refl)
      go (suc k) here = rw (sub-one (suc k), le-ltb n 10 h)

-- the only digit that there may be
pub last_digit : (most n : ℕ) → most ≡ 1 → decimal most n ≡ (48 + n % 10) ∷ []
unfolding decimal
last_digit most n e = subst (λ k. decimal k n ≡ (48 + n % 10) ∷ []) (sym e) (go (ltb n 10))
  where
    go : (t : Bool) → (if t then [] else decimal 0 (n / 10)) ++ ((48 + n % 10) ∷ []) ≡ (48 + n % 10) ∷ []
    go true = refl
    go false = refl

-- ---- a text in lent bytes

module _ (text lent : List ℕ) where
  pub printed_fits : (n : ℕ) (out : List ℕ) → accept (n, out) ≡ placed text (0, lent) → ◌≡◌ {A = Result ℕ × List ℕ} (accept n, out) (printed lent text)
  unfolding laid
  printed_fits n out e =
      let f = fitted text 0 lent (n, out) e in
      rw (le-leb (length text) (length lent) (omega (arith, f.0))) (ap (λ (p : Page). (accept p.0, p.1)) f.1 ∙ ap (λ (n : ℕ). (accept n, text ++ drop n lent)) (zero-add (length text)))

  pub printed_over : (k : ℕ) (out : List ℕ) → refuse k ≡ placed text (0, lent) → length out ≡ length lent → ◌≡◌ {A = Result ℕ × List ℕ} (refuse k, replicate (length out) 0) (printed lent text)
  printed_over k out e same =
      let f = full text 0 lent k e in
      rw (lt-leb (length text) (length lent) (omega (arith, f.1))) (ap (λ (n : ℕ). (refuse k, replicate n 0)) same ∙ ap (λ (n : ℕ). (refuse n, replicate (length lent) 0)) f.0)
