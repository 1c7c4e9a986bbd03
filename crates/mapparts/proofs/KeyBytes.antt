-- The keys of a run. A number takes a byte at least, so reading keys needs no fuel but the bytes themselves: it goes number
-- by number.
use Prim.Native.Nat.{ℕ, zero, suc, ◌-◌, ◌≤◌, ◌<◌}
use native.Mathlib.Omega.{arith}
use mathlib.Core.Path.{◌≡◌, refl, sym, ap, ◌∙◌, subst}
use mathlib.Core.Bool.{Bool, true, false, ◌&&◌}
use mathlib.Core.List.{List, [], ◌∷◌}
use lib.Dec.{ltb, leb}
use lib.ListN.{length}
use Rattle.std.specs.Prelude as Prelude
use Rattle.std.specs.Prelude.{if◌then◌else◌, Ok, Err}
use Rattle.rules.specs.Basics.{Result, accept, refuse, ◌>>=◌, unless}
use Rattle.rules.specs.Numbers.{groups, value_of, shortest, number, number_up_to}
use Rattle.rules.specs.Run.{numbers_in, read_keys}
use Rattle.keyvalues.specs.declared.refusal.Refusal.{Refusal}
use Rattle.mapparts.specs.View.{Checked}

-- ---- a number takes a byte at least

module _ {A : Type 0} where
  abbrev Shorter : List ℕ → Result (A × List ℕ) → Type 0
  Shorter bs (accept r) = length r.1 < length bs
  Shorter bs (refuse n) = Unit {0}

groups_shorter : (bs : List ℕ) → Shorter bs (groups bs)
unfolding groups
groups_shorter [] = tt
groups_shorter (b ∷ bs) = go (ltb b 128) (groups bs) (groups_shorter bs)
  where
    go : (t : Bool) (x : Result (List ℕ × List ℕ)) → Shorter bs x → Shorter (b ∷ bs) (if t then accept (b ∷ [], bs) else (x >>= λ r. accept ((b - 128) ∷ r.0, r.1)))
    go true x h = omega arith
    go false (accept r) h = omega arith
    go false (refuse n) h = tt

read_shorter : (most : ℕ) (bs : List ℕ) → Shorter bs (number_up_to most bs)
unfolding number_up_to
read_shorter most bs = go (groups bs) (groups_shorter bs)
  where
    test : (t : Bool) (v : ℕ) (r : List ℕ) → length r < length bs → Shorter bs (unless t 9 (accept (v, r)))
    test true v r h = h
    test false v r h = tt

    go : (x : Result (List ℕ × List ℕ)) → Shorter bs x → Shorter bs (x >>= λ r. unless (shortest r.0 && leb (value_of r.0) most) 9 (accept (value_of r.0, r.1)))
    go (accept r) h = test (shortest r.0 && leb (value_of r.0) most) (value_of r.0) r.1 h
    go (refuse n) h = tt

number_shorter : (bs : List ℕ) → Shorter bs (number bs)
unfolding number
number_shorter bs = read_shorter 65535 bs

pub shorter_to : (most : ℕ) (bs rest : List ℕ) (v : ℕ) → accept (v, rest) ≡ number_up_to most bs → length rest < length bs
shorter_to most bs rest v e = subst (Shorter bs) (sym e) (read_shorter most bs)

pub shorter : (bs rest : List ℕ) (v : ℕ) → accept (v, rest) ≡ number bs → length rest < length bs
shorter bs rest v e = subst (Shorter bs) (sym e) (number_shorter bs)

-- ---- number by number

-- what is read of a key and of those after it
abbrev keyed : ℕ → Result (List ℕ) → Result (List ℕ)
keyed v x = x >>= λ ks. accept (v ∷ ks)

fuel : (f g : ℕ) (bs : List ℕ) → length bs ≤ f → length bs ≤ g → numbers_in f bs ≡ numbers_in g bs
unfolding numbers_in
fuel zero zero bs h k = refl
fuel zero (suc g) [] h k = refl
fuel zero (suc g) (b ∷ bs) h k = absurd (omega arith)
fuel (suc f) zero [] h k = refl
fuel (suc f) zero (b ∷ bs) h k = absurd (omega arith)
fuel (suc f) (suc g) [] h k = refl
fuel (suc f) (suc g) (b ∷ bs) h k = go (λ r l m. fuel f g r l m) (number (b ∷ bs)) (number_shorter (b ∷ bs))
  where
    go : ((r : List ℕ) → length r ≤ f → length r ≤ g → numbers_in f r ≡ numbers_in g r) → (x : Result (ℕ × List ℕ)) → Shorter (b ∷ bs) x → (x >>= λ r. keyed r.0 (numbers_in f r.1)) ≡ (x >>= λ r. keyed r.0 (numbers_in g r.1))
    go again (accept r) l = ap (keyed r.0) (again r.1 (omega arith) (omega arith))
    go again (refuse n) l = refl

pub keys_none : (bs : List ℕ) → length bs ≡ 0 → read_keys bs ≡ accept []
unfolding read_keys numbers_in
keys_none [] h = refl
keys_none (b ∷ bs) h = absurd (omega arith)

keys_by : (bs : List ℕ) → 0 < length bs → read_keys bs ≡ (number bs >>= λ r. keyed r.0 (read_keys r.1))
unfolding read_keys numbers_in
keys_by [] h = absurd (omega arith)
keys_by (b ∷ bs) h = go (number (b ∷ bs)) (number_shorter (b ∷ bs))
  where
    go : (x : Result (ℕ × List ℕ)) → Shorter (b ∷ bs) x → (x >>= λ r. keyed r.0 (numbers_in (length bs) r.1)) ≡ (x >>= λ r. keyed r.0 (numbers_in (length r.1) r.1))
    go (accept r) l = ap (keyed r.0) (fuel (length bs) (length r.1) r.1 (omega arith) (omega arith))
    go (refuse n) l = refl

module _ (bs rest : List ℕ) (v : ℕ) (e : accept (v, rest) ≡ number bs) where
  key_more : read_keys bs ≡ keyed v (read_keys rest)
  key_more = keys_by bs (omega (arith, shorter bs rest v e)) ∙ sym (ap (λ x. x >>= λ r. keyed r.0 (read_keys r.1)) e)

  -- what is told of the keys that are left is so of all
  pub checked_more : (b : Prelude.Result (Unit {0}) Refusal) → Checked b (read_keys rest) → Checked b (read_keys bs)
  checked_more (Ok x) h = (v ∷ h.0, key_more ∙ ap (keyed v) h.1)
  checked_more (Err r) h = (h.0, key_more ∙ ap (keyed v) h.1)

  -- the first of the keys, and the others
  pub key_first : (ks : List ℕ) → read_keys bs ≡ accept ks → (others : List ℕ) × (read_keys rest ≡ accept others) × (v ∷ others ≡ ks)
  key_first ks h = go (read_keys rest) refl (sym key_more ∙ h)
    where
      go : (x : Result (List ℕ)) → read_keys rest ≡ x → keyed v x ≡ accept ks → (others : List ℕ) × (read_keys rest ≡ accept others) × (v ∷ others ≡ ks)
      go (accept others) p q = (others, p, (let z : v ∷ others ≡ ks = cc in z))
      go (refuse n) p q = let z : ◌≡◌ {A = ℕ} 0 1 = cc in absurd (omega arith)

pub key_bad : (bs : List ℕ) (n : ℕ) → (length bs ≡ 0 → ⊥) → refuse n ≡ number bs → read_keys bs ≡ refuse n
key_bad bs n h e = keys_by bs (omega arith) ∙ sym (ap (λ x. x >>= λ r. keyed r.0 (read_keys r.1)) e)
