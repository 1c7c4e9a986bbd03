-- The longest text: at most 18 bytes of heading and four for each byte of the pairs, of which there are at most 65,536. For a
-- number of one byte is below 128 and has three digits at most, any other five, and one byte more ends it. A count is less than its
-- number, or a dash.
use Prim.Native.Nat.{ℕ, ◌+◌, ◌*◌, ◌/◌, ◌≤◌, ◌<◌}
use native.Mathlib.Omega.{arith}
use mathlib.Core.Path.{◌≡◌, refl, sym, ap, ◌∙◌}
use mathlib.Core.Logic.{◌⊎◌, inl, inr}
use mathlib.Core.Bool.{Bool, true, false}
use Rattle.std.specs.Prelude.{if◌then◌else◌}
use mathlib.Core.List.{List, [], ◌∷◌, ◌++◌}
use lib.Seq.{take_at}
use lib.ListN.{length, take, drop, length-append}
use borrow.Author.Tests.{le-leb}
use Rattle.std.specs.Prelude as Prelude
use Rattle.std.specs.Prelude.{Ok, Err, IsOk}
use Rattle.rules.specs.Basics.{Result, accept}
use Rattle.keyvalues.specs.declared.refusal.Refusal.{Refusal}
use Rattle.keyvalues.specs.View.{told}
use Rattle.rules.specs.Values.{Context, Pair}
use Rattle.rules.specs.Numbers.{bytes_of}
use Rattle.rules.specs.Run.{count_number, pair_bytes, decimal, count_text, line_of, lines_of, heading, refusal, text_of, keyplay}
use Rattle.rules.proofs.Numbers.{side, written_one}
use Rattle.rules.proofs.Results.{accepts, refuses}
use Rattle.mapparts.proofs.Writing.{bytes_two, bytes_three}
use Rattle.mapfile.specs.View.{bytes_of_pair}
use Rattle.playback.specs.View.{printed}
use Rattle.playback.proofs.Putting.{decimal_step, decimal_short}
use Rattle.playback.proofs.Texts.{Fitting, input_fits}

-- no text is longer
abbrev pub Longest : Type 0
Longest = (input : List ℕ) → length (keyplay input) ≤ 262162

three_digits : (n : ℕ) → n < 128 → length (decimal 5 n) ≤ 3
three_digits n l = decimal_step 4 n 2 (λ _. decimal_step 3 (n / 10) 1 (λ _. decimal_step 2 (n / 10 / 10) 0 (λ h. absurd (omega arith))))

-- the digits of a number, and the bytes of that number or of a larger one
number_short : (n k : ℕ) → n ≤ k → length (decimal 5 n) + 1 ≤ 4 * length (bytes_of k)
number_short n k h = go (side n 128) (side k 128) (side k 16384)
  where
    go : (n < 128) ⊎ (128 ≤ n) → (k < 128) ⊎ (128 ≤ k) → (k < 16384) ⊎ (16384 ≤ k) → length (decimal 5 n) + 1 ≤ 4 * length (bytes_of k)
    go (inl l) (inl m) s = omega (arith, three_digits n l, ap length (written_one k m))
    go (inr l) (inl m) s = absurd (omega (arith, h))
    go l (inr m) (inl s) = omega (arith, decimal_short 5 n, ap length (bytes_two k m s))
    go l (inr m) (inr s) = omega (arith, decimal_short 5 n, ap length (bytes_three k s))

count_short : (c : Context) → length (count_text c) + 1 ≤ 4 * length (bytes_of (count_number c))
unfolding count_text count_number
count_short c = go c.typed
  where
    go : (typed : Bool) → length (if typed then decimal 5 c.count else 0x2D ∷ []) + 1 ≤ 4 * length (bytes_of (if typed then c.count + 1 else 0))
    go true = number_short c.count (c.count + 1) (omega arith)
    go false = omega (arith, ap length (written_one 0 (omega arith)))

line_short : (p : Pair) → length (line_of p) ≤ 4 * length (bytes_of_pair p)
unfolding line_of
line_short p =
    simp length-append (omega (arith, number_short p.action p.action (omega arith), count_short p.context, number_short p.context.mark p.context.mark (omega arith)))

lines_short : (ps : List Pair) → length (lines_of ps) ≤ 4 * length (pair_bytes ps)
unfolding lines_of pair_bytes
lines_short [] = omega arith
lines_short (p ∷ ps) =
    omega (arith, length-append (line_of p) (lines_of ps), length-append (bytes_of_pair p) (pair_bytes ps), line_short p, lines_short ps)

text_short : {x : Result (List Pair)} → Fitting x → length (text_of x) ≤ 262162
unfolding text_of heading refusal
text_short (accepts {a = ps} h) = omega (arith, length-append heading (lines_of ps), lines_short ps)
text_short (refuses n t) = omega (arith, length-append (decimal 5 n) (0x0A ∷ []), decimal_short 5 n)

pub longest : Longest
unfolding keyplay
longest input = text_short (input_fits input)

-- so it always fits
module _ (input lent out : List ℕ) (r : Prelude.Result ℕ Refusal) (e : ◌≡◌ {A = Result ℕ × List ℕ} (told (λ n. n) r, out) (printed lent (keyplay input))) (wide : length lent ≡ 262162) where
  fits : ◌≡◌ {A = Result ℕ × List ℕ} (printed lent (keyplay input)) (accept (length (keyplay input)), keyplay input ++ drop (length (keyplay input)) lent)
  fits = rw (le-leb (length (keyplay input)) (length lent) (omega (arith, longest input, wide))) refl

  fit : told (λ n. n) r ≡ accept (length (keyplay input))
  fit = ap (λ (a : Result ℕ × List ℕ). a.0) (e ∙ fits)

  pub always_fits : IsOk r
  always_fits = go r fit
    where
      go : (r : Prelude.Result ℕ Refusal) → told (λ n. n) r ≡ accept (length (keyplay input)) → IsOk r
      go (Ok n) h = refl
      go (Err f) h = absurd (cc)

  -- and stands in front
  pub in_front : (n : ℕ) → r ≡ Ok n → take n out ≡ keyplay input
  in_front n h =
      let k : n ≡ length (keyplay input) = let f : accept n ≡ accept (length (keyplay input)) = ap (told (λ n. n)) (sym h) ∙ fit in cc in
      ap (take n) (ap (λ (a : Result ℕ × List ℕ). a.1) e ∙ ap (λ (a : Result ℕ × List ℕ). a.1) fits) ∙ take_at (keyplay input) (drop (length (keyplay input)) lent) n (sym k)
