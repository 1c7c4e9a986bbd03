-- An input comes to what the definition says: each refusal where it is met, and the run of its parts. What a run wrote fits its
-- output, and stands in front of it.
use Rattle.std.specs.Prelude as Prelude
use Rattle.std.specs.Prelude.{Ok, Err, IfOk}
use Prim.Native.Nat.{ℕ, ◌≤◌, ◌<◌, min}
use native.Mathlib.Omega.{arith}
use mathlib.Core.Path.{◌≡◌, refl, sym, ap, ◌∙◌}
use mathlib.Core.Bool.{Bool, true}
use mathlib.Core.List.{List, [], ◌∷◌, ◌++◌}
use lib.Dec.{leb, leb→le}
use lib.ListN.{length, take, drop}
use lib.Seq.{take_at}
use borrow.Author.Tests.{le-leb, lt-leb}
use Rattle.rules.specs.Basics.{Result, accept, refuse, ◌>>=◌, unless}
use Rattle.rules.specs.Values.{Pair}
use Rattle.rules.specs.Numbers.{number}
use Rattle.rules.specs.MapFile.{read_map}
use Rattle.rules.specs.Calls.{Machine, graph_kind, key_call}
use Rattle.rules.specs.Run.{read_keys, pair_bytes, emptied, play_keys, run, output_of, answered, play_input, refusal, text_of, keyplay}
use Rattle.rules.proofs.Results.{Always, accepts, refuses, Whatever, always_bind, unless_so}
use Rattle.keyvalues.specs.declared.refusal.Refusal.{Refusal}
use Rattle.mapparts.specs.View.{length_code}
use Rattle.mapfile.specs.View.{Ran}
use Rattle.playback.specs.View.{played, Played}

-- ---- the pairs of a run fit

-- the pairs' bytes fit
abbrev pub Fits : List Pair → Type 0
Fits ps = length (pair_bytes ps) ≤ 65536

abbrev any : ℕ → Bool
any n = true

-- nothing is said of a refusal
abbrev pub Fitting : Result (List Pair) → Type 0
Fitting x = Always any Fits x

whatever : {A : Type 0} (x : Result A) → Always any Whatever x
whatever (accept a) = accepts tt
whatever (refuse n) = refuses n tt

play_fits : (budget : ℕ) (ks : List ℕ) (s : Machine graph_kind) (out : List Pair) → Fits out → Fitting (play_keys budget 65536 ks s out)
unfolding play_keys
play_fits budget [] s out h = accepts h
play_fits budget (k ∷ ks) s out h =
    always_bind (whatever (key_call graph_kind (record { key = k; budget = budget }) s).result)
    (λ m _. unless_so (leb (length (pair_bytes (out ++ m.shared.queue))) 65536) 10 tt (λ t. play_fits budget ks (emptied s m) (out ++ m.shared.queue) (leb→le _ _ t)))

pub run_fits : (map keys : List ℕ) (budget : ℕ) → Fitting (run map keys budget 65536)
unfolding run pair_bytes
run_fits map keys budget = always_bind (whatever (read_map map)) (λ s _. always_bind (whatever (read_keys keys)) (λ ks _. play_fits budget ks s [] (omega arith)))

pub input_fits : (input : List ℕ) → Fitting (unless (leb (length input) 65536) 9 (play_input input))
unfolding play_input
input_fits input =
    unless_so (leb (length input) 65536) 9 tt
    (λ _. always_bind (whatever (number input))
    (λ r _. unless_so (leb r.0 (length r.1)) 9 tt (λ _. run_fits (take r.0 r.1) (drop r.0 r.1) 1000)))

-- ---- what an input comes to

module _ (input : List ℕ) where
  pub too_long : 65536 < length input → played input ≡ refuse 9
  too_long h = rw (lt-leb (length input) 65536 h) refl

  module _ (short : length input ≤ 65536) where
    -- what is come to after the map's length
    abbrev after : Result (ℕ × List ℕ) → Result (List Pair)
    after x = x >>= λ r. unless (leb r.0 (length r.1)) 9 (run (take r.0 r.1) (drop r.0 r.1) 1000 65536)

    reads : played input ≡ after (number input)
    unfolding play_input
    reads = rw (le-leb (length input) 65536 short) refl

    pub play_bad : (n : ℕ) → refuse n ≡ number input → played input ≡ refuse n
    play_bad n e = reads ∙ sym (ap after e)

    module _ (v : ℕ) (rest : List ℕ) (e : accept (v, rest) ≡ number input) where
      pub play_short : length rest < v → played input ≡ refuse 9
      play_short k = reads ∙ sym (ap after e) ∙ rw (lt-leb v (length rest) k) refl

      pub play_run : v ≤ length rest → (map keys : List ℕ) → map ≡ take v rest → keys ≡ drop v rest → (lent : ℕ) → lent ≡ 65536 → run map keys 1000 lent ≡ played input
      play_run k map keys m l lent w = rw (m, l, w) (sym (reads ∙ sym (ap after e) ∙ rw (le-leb v (length rest) k) refl))

-- the pairs of a run stand in front of its output
module _ (x : Result (List Pair)) (lent out : List ℕ) where
  pub ran_out : (r : Prelude.Result ℕ Refusal) → Ran x r → ◌≡◌ {A = ℕ × List ℕ} (length_code r, out) (answered pair_bytes lent x) → IfOk r (λ n. n ≤ min (length lent) 65536) → length out ≡ length lent → Played x r out
  unfolding output_of
  ran_out (Ok n) (ps, e, k, s) h f l =
      let g : out ≡ pair_bytes ps ++ drop (length (pair_bytes ps)) lent = ap (λ (a : ℕ × List ℕ). a.1) h ∙ ap (output_of pair_bytes lent) e in
      (ps, e, s, omega arith, ap (take n) g ∙ take_at (pair_bytes ps) (drop (length (pair_bytes ps)) lent) n (sym k))
  ran_out (Err e) k h f l = k

-- the text of what an input comes to
module _ (input : List ℕ) where
  pub text_ran : (ps : List Pair) → played input ≡ accept ps → text_of (accept ps) ≡ keyplay input
  unfolding keyplay
  text_ran ps e = ap text_of (sym e)

  pub text_refused : (n : ℕ) → played input ≡ refuse n → refusal n ≡ keyplay input
  unfolding keyplay text_of
  text_refused n e = ap text_of (sym e)
