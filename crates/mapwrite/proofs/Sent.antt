-- All numbers of a map, put from the front of the output, are what is sent: they fit or they do not.
use Prim.Native.Nat.{ℕ, ◌+◌, ◌*◌, ◌≤◌, min}
use native.Mathlib.Omega.{arith}
use native.Mathlib.Nat.{zero-add}
use mathlib.Core.Path.{◌≡◌, refl, sym, ap, ◌∙◌}
use mathlib.Core.Bool.{true, false}
use mathlib.Core.List.{List, map}
use lib.ListN.{length, take, replicate}
use borrow.Author.Tests.{le-leb, lt-leb}
use Rattle.std.specs.Prelude as Prelude
use Rattle.std.specs.Prelude.{Ok, Err, is_err}
use Rattle.rules.specs.Basics.{accept}
use Rattle.rules.specs.Values.{Binding}
use Rattle.rules.specs.Tables.{Tables}
use Rattle.rules.specs.Run.{code_of, output_of}
use Rattle.rules.specs.Writing.{listed, tables_numbers, binding_numbers, map_numbers, write_map, written, sent}
use Rattle.keyvalues.specs.declared.refusal.Refusal.{Refusal}
use Rattle.keyvalues.specs.View.{number_of, told}
use Rattle.keptcalls.specs.View.{call_in, kept_in}
use Rattle.keptcalls.specs.declared.words.CallWords.{CallWords}
use Rattle.mapwrite.proofs.Few.{map_short}
use Rattle.mapparts.specs.View.{laid, Page, placed, put_all, length_code}
use Rattle.mapparts.proofs.Writing.{fitted, full, put_placed, put_append, then_put}

module _ (t : Tables) (xs : List Binding) (out : List ℕ) where
  abbrev bs : List ℕ
  bs = write_map t xs

  -- the tables, and the calls behind them
  pub map_placed : placed (write_map t xs) (0, out) ≡ then_put put_all (put_all (tables_numbers t) (0, out)) (listed binding_numbers xs)
  unfolding map_numbers tables_numbers listed write_map
  map_placed = sym (put_placed _ _ 0 out) ∙ put_append (tables_numbers t) (listed binding_numbers xs) (0, out)

  -- what was put behind the tables ends where the map does
  pub sent_length : (p q : Page) → accept p ≡ put_all (tables_numbers t) (0, out) → accept q ≡ put_all (listed binding_numbers xs) p → (q.0 ≡ length bs) × (q.0 ≤ length out)
  unfolding then_put
  sent_length p q e k =
      let f = fitted bs 0 out q (k ∙ ap (λ r. then_put put_all r (listed binding_numbers xs)) e ∙ sym map_placed) in
      let g : q.0 ≡ 0 + length bs = ap (λ (p : Page). p.0) f.1 in
      (omega (arith, g), omega (arith, g, f.0))

  -- what was written is sent, and refused, zeros are
  pub sent_told : (r : Prelude.Result ℕ Refusal) (out₁ : List ℕ) → told (λ n. (n, out₁)) r ≡ placed bs (0, out) → is_err r ≡ false → ◌≡◌ {A = ℕ × List ℕ} (length_code r, out₁) (sent t xs out)
  unfolding written code_of output_of laid
  sent_told (Err f) out₁ e b = cc
  sent_told (Ok n) out₁ e b =
      let f = fitted bs 0 out (n, out₁) e in
      let g : n ≡ 0 + length bs = ap (λ (p : Page). p.0) f.1 in
      let k : out₁ ≡ laid 0 bs out = ap (λ (p : Page). p.1) f.1 in
      rw (le-leb (length bs) (length out) (omega (arith, f.0)), g, k, zero-add (length bs)) refl

  pub sent_zeros : (r : Prelude.Result ℕ Refusal) (out₁ out₂ : List ℕ) → told (λ n. (n, out₁)) r ≡ placed bs (0, out) → is_err r ≡ true → out₂ ≡ replicate (length out) 0 → ◌≡◌ {A = ℕ × List ℕ} (length_code r, out₂) (sent t xs out)
  unfolding written code_of output_of
  sent_zeros (Ok n) out₁ out₂ e b z = cc
  sent_zeros (Err r) out₁ out₂ e b z = let f = full bs 0 out (number_of r) e in rw (lt-leb (length bs) (length out) (omega (arith, f.1)), f.0, z) refl

-- a map has few bytes
pub few_put : (t : Tables) (n : ℕ) (ks : List CallWords) (out : List ℕ) (p q : Page) → length (tables_numbers t) ≤ 547 → length ks ≡ 1024
    → length (listed binding_numbers (map call_in (take n ks))) ≤ 1 + 140 * length (take n ks)
    → accept p ≡ put_all (tables_numbers t) (0, out) → accept q ≡ put_all (listed binding_numbers (map call_in (take n ks))) p → q.0 ≤ min (length out) 431724
unfolding kept_in
few_put t n ks out p q few hk each e k = let s = sent_length t (kept_in n ks) out p q e k in omega (arith, s.0, s.1, map_short t n ks few (omega arith) each)
