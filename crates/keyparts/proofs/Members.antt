-- Why a class whose bit is not in the set is none of the key's: each entry that holds the key has put the bit of its class there, so all
-- entries are passed over by such a class.
use Prim.Native.Nat.{ℕ, suc, ◌+◌, ◌*◌, ◌%◌, ◌^◌, ◌<◌, ◌≤◌}
use mathlib.Core.Path.{◌≡◌, sym, ap, ◌∙◌}
use mathlib.Core.Bool.{false}
use mathlib.Core.List.{List, map}
use native.Mathlib.Omega.{arith}
use lib.ListN.{length, drop, get_or, length-map}
use Rattle.std.specs.Int.{bit_at}
use Rattle.std.specs.Int.Bits.{bit_or}
use Rattle.std.proofs.lemmas.Nat.Bits.{bit_at_ones, bit_at_set_same, bit_at_set_other}
use mir.Syntax.{w64}
use Rattle.rules.specs.Values.{Class}
use Rattle.rules.specs.Tables.{holds_key}
use Rattle.rules.specs.OnePass.{rank, class_rank}
use Rattle.keyvalues.specs.declared.class.ClassWord.{ClassWord}
use Rattle.keyvalues.specs.View.{class_at}
use Rattle.keyparts.specs.Pass.{Among}
use Rattle.keyparts.proofs.Remembered.{no_class, rank_class, class_none, class_other, class_miss}

module _ (classes : List ClassWord) (k : ℕ) where
  -- the set of all bits
  pub among_all : Among (map class_at classes) k 18446744073709551615
  among_all c e = let b : c % 64 < 64 = omega arith in absurd (omega (arith, e, bit_at_ones 64 (c % 64) b))

  -- the set after i entries: a class whose bit is not there is that of none of them
  pub record Told (i set : ℕ) : Type 0 where
    pub passed : (c : ℕ) → bit_at set (c % 64) ≡ 0 → rank (map class_at classes) k (Class c) ≡ suc i + class_rank (map class_at (drop i classes)) k (Class c)

  pub told_none : Told 0 0
  told_none = record { passed = λ c e. omega (arith, rank_class (map class_at classes) k c) }

  pub told_all : (i set : ℕ) → Told i set → length classes ≤ i → i ≤ length classes → Among (map class_at classes) k set
  told_all i set t l u c e = sym (class_none classes k c (rank (map class_at classes) k (Class c)) i (t.passed c e) l u) ∙ ap (λ (m : ℕ). m + 3) (sym (length-map classes class_at))

  module _ (i set : ℕ) (t : Told i set) (l : i < length classes) where
    pub told_other : holds_key (class_at (get_or classes i no_class)) k ≡ false → Told (suc i) set
    told_other h = record { passed = λ c e. class_miss classes k c (rank (map class_at classes) k (Class c)) i (t.passed c e) l h }

    pub told_held : Told (suc i) (bit_or set (1 * 2 ^ ((class_at (get_or classes i no_class)).class % 64) % 2 ^ 64))
    told_held = record {
      passed = λ c e.
          let b : (class_at (get_or classes i no_class)).class % 64 < 64 = omega arith in
          let same = bit_at_set_same w64 set ((class_at (get_or classes i no_class)).class % 64) b in
          let d : (class_at (get_or classes i no_class)).class % 64 ≡ c % 64 → ⊥ = λ q. absurd (omega (arith, rw q at same, rw q at e)) in
          class_other classes k c (rank (map class_at classes) k (Class c)) i
          (t.passed c (sym (bit_at_set_other w64 set ((class_at (get_or classes i no_class)).class % 64) b (c % 64) (λ q. d (sym q))) ∙ e)) l (λ q. d (ap (λ (x : ℕ). x % 64) q));
    }
