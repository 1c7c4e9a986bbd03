-- The rules' number of three groups at most goes by the first three bytes, and one that is to be smaller is tested then.
use Prim.Native.Nat.{ℕ, ◌+◌, ◌-◌, ◌*◌, ◌≤◌, ◌<◌}
use native.Mathlib.Omega.{arith}
use mathlib.Core.Path.{◌≡◌, refl, sym, ap, ◌∙◌}
use mathlib.Core.List.{List, [], ◌∷◌}
use borrow.Author.Tests.{lt-leb, le-leb, ne_eqb, eq-eqb}
use Rattle.rules.specs.Basics.{accept, refuse}
use Rattle.rules.specs.Numbers.{number_up_to}
use Rattle.rules.proofs.Numbers.{number_none, number_one, number_one_short, number_two, number_two_short, number_three, number_long, held, narrowed}

-- the largest of three groups
abbrev most : ℕ
most = 2097151

module _ (s : List ℕ) where
  pub none : s ≡ [] → refuse 9 ≡ number_up_to most s
  none e = rw e (sym (number_none most))

  module _ (b : ℕ) (s₁ : List ℕ) (e : s ≡ b ∷ s₁) where
    pub one : b < 128 → accept (b, s₁) ≡ number_up_to most s
    one h = rw e (sym (number_one most b s₁ h (omega arith)))

    module _ (hb : 128 ≤ b) (byte : b < 256) where
      pub one_short : s₁ ≡ [] → refuse 9 ≡ number_up_to most s
      one_short e₁ = rw (e, e₁) (sym (number_one_short most b hb))

      module _ (c : ℕ) (s₂ : List ℕ) (e₁ : s₁ ≡ c ∷ s₂) where
        pub two_zero : c ≡ 0 → refuse 9 ≡ number_up_to most s
        two_zero h = rw (e, e₁) (sym (number_two most b c s₂ hb (omega arith) ∙ rw (eq-eqb c 0 h)))

        pub two : (c ≡ 0 → ⊥) → c < 128 → accept (b - 128 + 128 * c, s₂) ≡ number_up_to most s
        two h l = rw (e, e₁) (sym (number_two most b c s₂ hb l ∙ rw (ne_eqb c 0 h, le-leb (b - 128 + 128 * c) most (omega arith))))

        module _ (hc : 128 ≤ c) (byte-c : c < 256) where
          pub two_short : s₂ ≡ [] → refuse 9 ≡ number_up_to most s
          two_short e₂ = rw (e, e₁, e₂) (sym (number_two_short most b c hb hc))

          module _ (d : ℕ) (s₃ : List ℕ) (e₂ : s₂ ≡ d ∷ s₃) where
            pub three_zero : d ≡ 0 → refuse 9 ≡ number_up_to most s
            three_zero h = rw (e, e₁, e₂) (sym (number_three most b c d s₃ hb hc (omega arith) ∙ rw (eq-eqb d 0 h)))

            pub three : (d ≡ 0 → ⊥) → d < 128 → accept (b - 128 + 128 * (c - 128 + 128 * d), s₃) ≡ number_up_to most s
            three h l =
                rw (e, e₁, e₂) (sym (number_three most b c d s₃ hb hc l ∙ rw (ne_eqb d 0 h, le-leb (b - 128 + 128 * (c - 128 + 128 * d)) most (omega arith))))

            -- a byte that wants a fourth
            pub four : 128 ≤ d → refuse 9 ≡ number_up_to most s
            four h = rw (e, e₁, e₂) (sym (number_long most b c d s₃ (omega arith) hb hc h))

module _ (less : ℕ) (s : List ℕ) (h : less ≤ most) where
  pub bad : (n : ℕ) → refuse n ≡ number_up_to most s → refuse n ≡ number_up_to less s
  bad n e = sym (narrowed less most s h ∙ sym (ap (held less) e))

  module _ (n : ℕ) (rest : List ℕ) (e : accept (n, rest) ≡ number_up_to most s) where
    pub over : less < n → refuse 9 ≡ number_up_to less s
    over l = sym (narrowed less most s h ∙ sym (ap (held less) e) ∙ rw (lt-leb n less l) refl)

    pub within : n ≤ less → accept (n, rest) ≡ number_up_to less s
    within l = sym (narrowed less most s h ∙ sym (ap (held less) e) ∙ rw (le-leb n less l) refl)
