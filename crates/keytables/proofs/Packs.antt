-- Tables that a caller hands over are in range where each entry that counts is, and then they are seen whole. The words are stored
-- one entry after the other, each its entry's.
use Prim.Native.Nat.{ℕ, zero, suc, ◌+◌, ◌<◌}
use mathlib.Core.Path.{◌≡◌, refl, sym, ◌∙◌}
use mathlib.Core.Bool.{Bool, true, ◌&&◌}
use mathlib.Core.List.{List, [], ◌∷◌, map}
use native.Mathlib.Omega.{arith}
use lib.ListN.{length, take, set, get_or}
use lib.Dec.{leb}
use Rattle.std.specs.List.{list_all}
use Rattle.rules.specs.Basics.{every}
use Rattle.rules.proofs.Tests.{and_l, and_r}
use Rattle.rules.specs.Tables.{class_valid, mode_valid, rule_valid, tables_valid, no_entry}
use Rattle.keyvalues.specs.View.{fit, class_at}
use Rattle.keyvalues.specs.declared.class.ClassWord.{ClassWord}
use Rattle.keyvalues.specs.declared.tables.ModeWords.{ModeWords}
use Rattle.keyvalues.specs.declared.tables.RuleWord.{RuleWord}
use Rattle.keyvalues.proofs.Lists.{every_viewed}
use Rattle.keyvalues.proofs.Ranges.{fits}
use Rattle.std.proofs.lemmas.Bool.Decides.{nat_tests}
use Rattle.keytables.specs.declared.tables.Tables as declared
use Rattle.keytables.specs.View.{rule_of, rule_by, class_by, entry_in, whole_entry, whole_tables, tables, no_class, no_rule}

-- the first n words are those of their entries, as far as these are in range
abbrev pub Packed : {A B : Type 0} → (A → Bool) → (B → A → Type 0) → List A → List B → ℕ → Type 0
Packed {A} {B} valid means xs ws n = (i : ℕ) (d : A) (w : B) → i < n → valid (get_or xs i d) ≡ true → means (get_or ws i w) (get_or xs i d)

-- with the next entry's word
pub packed_more : {A B : Type 0} (valid : A → Bool) (means : B → A → Type 0) (xs : List A) (ws : List B) (n : ℕ) (w : B) (d : A) → n < length xs → n < length ws
    → (valid (get_or xs n d) ≡ true → means w (get_or xs n d)) → Packed valid means xs ws n → Packed valid means xs (set ws n w) (n + 1)
packed_more valid means [] ws n w d h k e p i d₁ w₁ l v = absurd (omega arith)
packed_more valid means (x ∷ xs) [] n w d h k e p i d₁ w₁ l v = absurd (omega arith)
packed_more valid means (x ∷ xs) (y ∷ ws) zero w d h k e p zero d₁ w₁ l v = e v
packed_more valid means (x ∷ xs) (y ∷ ws) zero w d h k e p (suc i) d₁ w₁ l v = absurd (omega arith)
packed_more valid means (x ∷ xs) (y ∷ ws) (suc n) w d h k e p zero d₁ w₁ l v = p zero d₁ w₁ (omega arith) v
packed_more valid means (x ∷ xs) (y ∷ ws) (suc n) w d h k e p (suc i) d₁ w₁ l v =
    packed_more valid means xs ws n w d (omega arith) (omega arith) e (λ j d₂ w₂ m. p (suc j) d₂ w₂ (omega arith)) i d₁ w₁ (omega arith) v

-- words whose views are those of their entries: so is the front of each
pub packed_front : {A B C : Type 0} (u : B → C) (v : A → C) (valid : A → Bool) (n : ℕ) (xs : List A) (ws : List B) → length ws ≡ length xs
    → Packed valid (λ w x. u w ≡ v x) (take n xs) ws (length (take n xs)) → list_all valid (take n xs) ≡ true → map u (take n ws) ≡ map v (take n xs)
packed_front u v valid zero xs ws l p a = refl
packed_front u v valid (suc n) [] [] l p a = refl
packed_front u v valid (suc n) [] (w ∷ ws) l p a = absurd (omega arith)
packed_front u v valid (suc n) (x ∷ xs) [] l p a = absurd (omega arith)
packed_front u v valid (suc n) (x ∷ xs) (w ∷ ws) l p a =
    let b = and_l (valid x) (list_all valid (take n xs)) a in
    let c = and_r (valid x) (list_all valid (take n xs)) a in
    rw (p 0 x w (omega arith) b, packed_front u v valid n xs ws (omega arith) (λ i d e m. p (suc i) d e (omega arith)) c)

-- a table is in range where there are no more entries than it holds, and each is in range
table_ok : {A C : Type 0} (g : A → C) (valid : C → Bool) (d : C) (n k : ℕ) (xs : List A) → length xs ≡ k
    → (leb n k && list_all (λ x. valid (g x)) (take n xs)) ≡ (leb (length (fit d n (map g xs))) k && every valid (fit d n (map g xs)))
table_ok g valid d n k xs e = let v = every_viewed g valid (take n xs) in grind (arith, nat_tests, fits)

module _ (x : declared.Tables) (lc : length x.classes ≡ 16) (lm : length x.modes ≡ 16) (lr : length x.rules ≡ 64) where
  abbrev pub classes_ok : Bool
  classes_ok = leb x.sizes.classes (length x.classes) && list_all (λ e. class_valid (class_by e)) (take x.sizes.classes x.classes)

  abbrev pub modes_ok : Bool
  modes_ok = leb x.sizes.modes (length x.modes) && list_all (λ e. mode_valid (whole_entry e)) (take x.sizes.modes x.modes)

  abbrev pub rules_ok : Bool
  rules_ok = leb x.sizes.rules (length x.rules) && list_all (λ e. rule_valid (rule_by e)) (take x.sizes.rules x.rules)

  pub tables_ok : tables_valid (whole_tables x) ≡ (classes_ok && modes_ok && rules_ok)
  unfolding tables_valid whole_tables
  tables_ok = rw (
    lc,
    lm,
    lr,
    table_ok class_by class_valid no_class x.sizes.classes 16 x.classes lc,
    table_ok whole_entry mode_valid no_entry x.sizes.modes 16 x.modes lm,
    table_ok rule_by rule_valid no_rule x.sizes.rules 64 x.rules lr,
  )

  -- within its range a list is seen whole, and its words are its entries
  pub all_words : tables_valid (whole_tables x) ≡ true → (cs : List ClassWord) (ms : List ModeWords) (rs : List RuleWord)
      → (list_all (λ e. class_valid (class_by e)) (take x.sizes.classes x.classes) ≡ true → map class_at (take x.sizes.classes cs) ≡ map class_by (take x.sizes.classes x.classes))
      → (list_all (λ e. mode_valid (whole_entry e)) (take x.sizes.modes x.modes) ≡ true → map entry_in (take x.sizes.modes ms) ≡ map whole_entry (take x.sizes.modes x.modes))
      → (list_all (λ e. rule_valid (rule_by e)) (take x.sizes.rules x.rules) ≡ true → map rule_of (take x.sizes.rules rs) ≡ map rule_by (take x.sizes.rules x.rules))
      → tables (map class_at (take x.sizes.classes cs)) (map entry_in (take x.sizes.modes ms)) (map rule_of (take x.sizes.rules rs)) ≡ whole_tables x
  unfolding whole_tables
  all_words h cs ms rs ac am ar =
      let k : (classes_ok && modes_ok && rules_ok) ≡ true = sym tables_ok ∙ h in grind (arith, nat_tests, fits)
