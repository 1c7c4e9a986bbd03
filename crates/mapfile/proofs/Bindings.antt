-- Bindings in a row: what is left to read, from the machine so far, comes to what all of them come to. A file is the tables, a
-- count and so many bindings, read from the fresh machine on.
use Prim.Native.Nat.{ℕ, suc, ◌+◌, ◌-◌, ◌≤◌, ◌<◌}
use native.Mathlib.Omega.{arith}
use mathlib.Core.Path.{◌≡◌, refl, sym, ap, ◌∙◌}
use mathlib.Core.List.{List}
use Rattle.rules.specs.Basics.{Result, accept, refuse}
use Rattle.rules.specs.Values.{Binding}
use Rattle.rules.specs.Calls.{Machine, graph_kind, fresh, bind}
use Rattle.rules.specs.Tables.{Tables}
use Rattle.rules.specs.Numbers.{number}
use Rattle.rules.specs.MapFile.{Reader, then_read, lifted, read_binding, read_bindings, read_tables, at_end, read_map}
use Rattle.mapfile.specs.View.{bind_next}

-- ---- bindings in a row

-- n of them, of which i are read
module _ (n i : ℕ) (m : Machine graph_kind) (bs : List ℕ) (h : i < n) where
  turn : then_read (bind_next m bs) (read_bindings (n - (i + 1))) ≡ read_bindings (n - i) m bs
  unfolding read_bindings
  turn = let e : n - i ≡ suc (n - (i + 1)) = omega arith in rw e (flat (read_binding bs))
    where
      flat : (y : Result (Binding × List ℕ)) → then_read (then_read y (λ x. lifted (bind graph_kind x m))) (read_bindings (n - (i + 1))) ≡ then_read y (λ x. λ bs. then_read (lifted (bind graph_kind x m) bs) (read_bindings (n - (i + 1))))
      flat (accept r) = refl
      flat (refuse n) = refl

  pub one_more : (m₁ : Machine graph_kind) (bs₁ : List ℕ) → accept (m₁, bs₁) ≡ bind_next m bs → read_bindings (n - (i + 1)) m₁ bs₁ ≡ read_bindings (n - i) m bs
  one_more m₁ bs₁ e = ap (λ r. then_read r (read_bindings (n - (i + 1)))) e ∙ turn

  pub no_more : (k : ℕ) → refuse k ≡ bind_next m bs → refuse k ≡ read_bindings (n - i) m bs
  no_more k e = ap (λ r. then_read r (read_bindings (n - (i + 1)))) e ∙ turn

pub none_left : (n i : ℕ) (m : Machine graph_kind) (bs : List ℕ) → n ≤ i → accept (m, bs) ≡ read_bindings (n - i) m bs
unfolding read_bindings
none_left n i m bs h = let e : n - i ≡ 0 = omega arith in sym (ap (λ n. read_bindings n m bs) e)

-- ---- the file

-- the count and the bindings behind the tables
abbrev counted : Tables → Reader (Machine graph_kind)
counted t = λ bs. then_read (number bs) (λ n. read_bindings n (fresh graph_kind t))

module _ (s : List ℕ) where
  pub no_tables_read : (n : ℕ) → refuse n ≡ read_tables s → refuse n ≡ read_map s
  unfolding read_map at_end
  no_tables_read n e = ap (λ r. at_end (then_read r counted)) e

  module _ (t : Tables) (bs : List ℕ) (e : accept (t, bs) ≡ read_tables s) where
    pub no_count : (n : ℕ) → refuse n ≡ number bs → refuse n ≡ read_map s
    unfolding read_map at_end
    no_count n f = ap (λ r. at_end (then_read r (λ n. read_bindings n (fresh graph_kind t)))) f ∙ ap (λ r. at_end (then_read r counted)) e

    pub counted_read : (n : ℕ) (rest : List ℕ) → accept (n, rest) ≡ number bs → {z : Result (Machine graph_kind × List ℕ)} → z ≡ read_bindings n (fresh graph_kind t) rest → at_end z ≡ read_map s
    unfolding read_map
    counted_read n rest f {z} g =
        ap at_end g ∙ ap (λ r. at_end (then_read r (λ n. read_bindings n (fresh graph_kind t)))) f ∙ ap (λ r. at_end (then_read r counted)) e
