-- Reading as many elements as a count says, one after another, and the end of what is read.
use Prim.Native.Nat.{ℕ, suc, ◌+◌, ◌-◌, ◌≤◌, ◌<◌}
use native.Mathlib.Omega.{arith}
use native.Mathlib.Nat.{sub-zero}
use mathlib.Core.Path.{◌≡◌, refl, sym, ap, ◌∙◌}
use mathlib.Core.List.{List, [], ◌∷◌, ◌++◌, append_assoc, append-nil}
use lib.ListN.{length}
use Rattle.std.specs.Prelude as Prelude
use Rattle.std.specs.Prelude.{Ok, Err}
use Rattle.rules.specs.Basics.{Result, accept, refuse, ◌>>=◌}
use Rattle.rules.specs.Values.{Binding}
use Rattle.rules.specs.MapFile.{Reader, then_read, give, times, at_end}
use Rattle.keyvalues.specs.View.{number_of, told}
use Rattle.keyvalues.specs.declared.refusal.Refusal.{Refusal}

-- ---- the end

pub ended : {A : Type 0} (a : A) (bs : List ℕ) → length bs ≡ 0 → accept a ≡ at_end (accept (a, bs))
unfolding at_end
ended a [] h = refl
ended a (b ∷ bs) h = absurd (omega arith)

pub left_over : {A : Type 0} (a : A) (bs : List ℕ) → (length bs ≡ 0 → ⊥) → refuse 9 ≡ at_end (accept (a, bs))
unfolding at_end
left_over a [] h = absurd (h refl)
left_over a (b ∷ bs) h = refl

-- what is said of a binding at the end is so of every value
pub end_of : {A : Type 0} (a : A) (b : Binding) (bs : List ℕ) (r : Prelude.Result (Unit {0}) Refusal) → told (λ _. b) r ≡ at_end (accept (b, bs)) → told (λ _. a) r ≡ at_end (accept (a, bs))
unfolding at_end
end_of a b [] (Ok u) e = refl
end_of a b (x ∷ bs) (Ok u) e = let z : ◌≡◌ {A = ℕ} 0 1 = cc in absurd (omega arith)
end_of a b [] (Err r) e = let z : ◌≡◌ {A = ℕ} 0 1 = cc in absurd (omega arith)
end_of a b (x ∷ bs) (Err r) e = let k : number_of r ≡ 9 = cc in ap refuse k

-- ---- as many as a count says

module _ {A : Type 0} where
  abbrev behind : List A → Result (List A × List ℕ) → Result (List A × List ℕ)
  behind xs m = m >>= λ r. accept (xs ++ r.0, r.1)

  -- n elements were to be read from the bytes `before` on: i of them are read, which are xs, and the others are to be read from
  -- `after` on
  pub record Left (read : Reader A) (n i : ℕ) (xs : List A) (before after : List ℕ) : Type 0 where
    pub is : times n read before ≡ behind xs (times (n - i) read after)

  module _ {read : Reader A} where
    pub left_all : (n : ℕ) (bs : List ℕ) → Left read n 0 [] bs bs
    left_all n bs = record { is = go (times n read bs) ∙ ap (λ k. behind [] (times k read bs)) (sym (sub-zero n)) }
      where
        go : (m : Result (List A × List ℕ)) → m ≡ behind [] m
        go (accept m) = refl
        go (refuse k) = refl

    module _ {n i : ℕ} {xs : List A} {before after : List ℕ} (h : Left read n i xs before after) where
      -- the next of them, and those after it
      turn : i < n → times n read before ≡ behind xs (then_read (read after) (λ a bs. then_read (times (n - (i + 1)) read bs) (λ rest. give (a ∷ rest))))
      unfolding times
      turn l = let e : n - i ≡ suc (n - (i + 1)) = omega arith in h.is ∙ ap (λ k. behind xs (times k read after)) e

      -- one more
      pub left_more : {a : A} {next : List ℕ} → i < n → accept (a, next) ≡ read after → Left read n (i + 1) (xs ++ a ∷ []) before next
      left_more {a} {next} l e = record { is = turn l ∙ ap (λ m. behind xs (then_read m (λ a bs. then_read (times (n - (i + 1)) read bs) (λ rest. give (a ∷ rest))))) (sym e) ∙ longer (times (n - (i + 1)) read next) }
        where
          longer : (m : Result (List A × List ℕ)) → behind xs (then_read m (λ rest. give (a ∷ rest))) ≡ behind (xs ++ a ∷ []) m
          longer (accept m) = ap (λ l. accept (l, m.1)) (sym (append_assoc xs (a ∷ []) m.0))
          longer (refuse k) = refl

      -- one that is refused
      pub left_refused : {m : ℕ} → i < n → refuse m ≡ read after → refuse m ≡ times n read before
      left_refused {m} l e = sym (turn l ∙ ap (λ m. behind xs (then_read m (λ a bs. then_read (times (n - (i + 1)) read bs) (λ rest. give (a ∷ rest))))) (sym e))

      -- all of them
      pub left_none : n ≤ i → accept (xs, after) ≡ times n read before
      unfolding times
      left_none l = let e : n - i ≡ 0 = omega arith in sym (h.is ∙ ap (λ k. behind xs (times k read after)) e ∙ ap (λ l. accept (l, after)) (append-nil xs))
