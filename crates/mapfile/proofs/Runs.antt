-- A run: the map, then the keys, then the playing; and what is answered.
use Prim.Native.Nat.{ℕ, zero, suc, ◌≤◌, min}
use native.Mathlib.Omega.{arith}
use native.Mathlib.Nat.{zero-add}
use mathlib.Core.Path.{◌≡◌, refl, sym, ap, ◌∙◌}
use mathlib.Core.Bool.{true, false}
use mathlib.Core.List.{List, [], ◌∷◌, ◌++◌, append_assoc}
use lib.ListN.{length, take, drop, replicate, length-take, take-append-drop}
use Rattle.std.specs.Prelude as Prelude
use Rattle.std.specs.Prelude.{Ok, Err, is_err}
use Rattle.rules.specs.Basics.{Result, accept, refuse, ◌>>=◌}
use Rattle.rules.specs.Values.{Pair}
use Rattle.rules.specs.Calls.{Machine, graph_kind}
use Rattle.rules.specs.MapFile.{read_map}
use Rattle.rules.specs.Run.{read_keys, play_keys, pair_bytes, run, code_of, output_of, answered}
use Rattle.keyvalues.specs.declared.refusal.Refusal.{Refusal}
use Rattle.mapparts.specs.View.{laid, length_code}
use Rattle.mapfile.specs.View.{Ran, Ended}

-- ---- the order of the work

module _ (map keys : List ℕ) (budget lent : ℕ) where
  pub no_map : (n : ℕ) → refuse n ≡ read_map map → run map keys budget lent ≡ refuse n
  unfolding run
  no_map n e = sym (ap (λ s. s >>= λ s. read_keys keys >>= λ ks. play_keys budget (min lent 65536) ks s []) e)

  module _ (m : Machine graph_kind) (e : accept m ≡ read_map map) where
    pub no_keys : (n : ℕ) → read_keys keys ≡ refuse n → run map keys budget lent ≡ refuse n
    unfolding run
    no_keys n k = sym (ap (λ s. s >>= λ s. read_keys keys >>= λ ks. play_keys budget (min lent 65536) ks s []) e) ∙ ap (λ ks. ks >>= λ ks. play_keys budget (min lent 65536) ks m []) k

    pub plays : (ks : List ℕ) → read_keys keys ≡ accept ks → run map keys budget lent ≡ play_keys budget (min lent 65536) ks m []
    unfolding run
    plays ks k = sym (ap (λ s. s >>= λ s. read_keys keys >>= λ ks. play_keys budget (min lent 65536) ks s []) e) ∙ ap (λ ks. ks >>= λ ks. play_keys budget (min lent 65536) ks m []) k

-- ---- what is answered

-- what is behind the front of a part that is as long as the room, and behind the part
behind : (n room : ℕ) (out : List ℕ) → n ≤ room → drop n (take room out) ++ drop room out ≡ drop n out
behind zero room out h = take-append-drop room out
behind (suc n) zero out h = absurd (omega arith)
behind (suc n) (suc room) [] h = refl
behind (suc n) (suc room) (x ∷ out) h = behind n room out (omega arith)

-- laid in the front of a part that is as long as the room
front : (bs out : List ℕ) (room : ℕ) → length bs ≤ room → laid 0 bs (take room out) ++ drop room out ≡ bs ++ drop (length bs) out
unfolding laid
front bs out room h = rw (zero-add (length bs)) (append_assoc bs (drop (length bs) (take room out)) (drop room out) ∙ ap (λ l. bs ++ l) (behind (length bs) room out h))

module _ (x : Result (List Pair)) (out : List ℕ) where
  -- a run in the front of the output is told, and the rest stays
  pub told_run : (room : ℕ) (r : Prelude.Result ℕ Refusal) (out₁ : List ℕ) → Ended x r (take room out) out₁ → is_err r ≡ false → ◌≡◌ {A = ℕ × List ℕ} (length_code r, out₁ ++ drop room out) (answered pair_bytes out x)
  unfolding code_of output_of
  told_run room (Err f) out₁ e h = cc
  told_run room (Ok n) out₁ e h =
      let ps = e.0.0 in
      let w = e.1 ps e.0.1 in
      rw (e.0.1, e.0.2, w.1, front (pair_bytes ps) out room (omega (arith, w.0, length-take room out))) refl

  -- a refused run leaves zeros
  pub told_zeros : (r : Prelude.Result ℕ Refusal) (out₁ : List ℕ) → Ran x r → is_err r ≡ true → out₁ ≡ replicate (length out) 0 → ◌≡◌ {A = ℕ × List ℕ} (length_code r, out₁) (answered pair_bytes out x)
  unfolding code_of output_of
  told_zeros (Ok n) out₁ e h z = cc
  told_zeros (Err f) out₁ e h z = rw (e, z) refl
