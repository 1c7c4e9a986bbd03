-- Keys played one after another. What is still to be played, from the machine and the pairs so far, comes to what the whole
-- play comes to; a key that is refused or whose pairs do not fit ends it, and any other leaves one key less.
use Prim.Native.Nat.{ℕ, ◌+◌, ◌≤◌}
use native.Mathlib.Omega.{arith}
use native.Mathlib.Nat.{zero-add}
use mathlib.Core.Path.{◌≡◌, refl, sym, ap, ◌∙◌}
use mathlib.Core.List.{List, [], ◌++◌}
use lib.Dec.{leb}
use lib.ListN.{length, length-append}
use borrow.Author.Tests.{le-leb, lt-leb}
use Rattle.std.specs.Prelude as Prelude
use Rattle.std.specs.Prelude.{Ok, Err, All}
use Rattle.std.proofs.lemmas.List.Elements.{All-append, All-nil}
use Rattle.rules.specs.Basics.{Result, accept, refuse, ◌>>=◌, unless}
use Rattle.rules.specs.Values.{Pair, Binding}
use Rattle.rules.specs.Numbers.{number}
use Rattle.rules.specs.Tables.{Tables}
use Rattle.rules.specs.Graph.{Graph}
use Rattle.rules.specs.KeyLoop.{Navigator, input_key, with_queue}
use Rattle.rules.specs.KeyLoop as key
use Rattle.rules.specs.Calls.{graph_kind, graph_navigator, fresh, key_call}
use Rattle.rules.specs.Run.{read_keys, pair_bytes, emptied, play_keys}
use Rattle.keyvalues.specs.View.{number_of, told}
use Rattle.keyvalues.specs.declared.refusal.Refusal.{Refusal}
use Rattle.keptcalls.specs.View.{machine_with}
use Rattle.keyloop.specs.View.{key_of}
use Rattle.mapparts.specs.View.{laid, Page, put_all}
use Rattle.mapparts.proofs.Writing.{laid_laid, fitted, full}
use Rattle.mapparts.proofs.KeyBytes.{key_first, keys_none, key_bad}
use Rattle.mapfile.specs.View.{pair_numbers, Small, Ended}
use Rattle.mapfile.proofs.PairBytes.{pairs_append, pairs_placed}

module _ (g : Graph) (cs : List Binding) (t : Tables) (budget : ℕ) (out₀ : List ℕ) where
  abbrev pub whole : List ℕ → Result (List Pair)
  whole ks₀ = play_keys budget (length out₀) ks₀ (machine_with g cs (fresh graph_kind t).state) []

  -- of the keys ks₀ those in the bytes bs are left, in the state x, and the pairs so far end at the place
  pub record Playing (ks₀ bs : List ℕ) (x : key.State ℕ) (at : ℕ) (out : List ℕ) : Type 0 where
    pub ks : List ℕ
    pub ps : List Pair
    pub left : read_keys bs ≡ accept ks
    pub same : play_keys budget (length out₀) ks (machine_with g cs x) ps ≡ whole ks₀
    pub place : at ≡ length (pair_bytes ps)
    pub room : at ≤ length out₀
    pub long : length out ≡ length out₀
    pub bytes : out ≡ laid 0 (pair_bytes ps) out₀
    pub small : All Small ps

  pub starts : (ks₀ bs : List ℕ) (x : key.State ℕ) → x ≡ (fresh graph_kind t).state → read_keys bs ≡ accept ks₀ → Playing ks₀ bs x 0 out₀
  unfolding pair_bytes laid
  starts ks₀ bs x e h = record {
    ks = ks₀;
    ps = [];
    left = h;
    same = ap (λ x. play_keys budget (length out₀) ks₀ (machine_with g cs x) []) e;
    place = refl;
    room = omega arith;
    long = refl;
    bytes = refl;
    small = All-nil Small;
  }

module _ {g : Graph} {cs : List Binding} {t : Tables} {budget : ℕ} {out₀ ks₀ bs : List ℕ} {x : key.State ℕ} {at : ℕ} {out : List ℕ} (P : Playing g cs t budget out₀ ks₀ bs x at out) where
  abbrev all : Result (List Pair)
  all = whole g cs t budget out₀ ks₀

  pub played_all : length bs ≡ 0 → Ended all (Ok at) out₀ out
  unfolding play_keys
  played_all h = ((P.ps, ran, P.place, P.small), λ ps k. same ps (sym ran ∙ k))
    where
      none : P.ks ≡ []
      none = let e : accept P.ks ≡ accept [] = sym P.left ∙ keys_none bs h in cc

      ran : all ≡ accept P.ps
      ran = sym P.same ∙ ap (λ ks. play_keys budget (length out₀) ks (machine_with g cs x) P.ps) none

      same : (ps : List Pair) → accept P.ps ≡ accept ps → (length (pair_bytes ps) ≤ length out₀) × (out ≡ laid 0 (pair_bytes ps) out₀)
      same ps k = let e : P.ps ≡ ps = cc in rw (sym e) (omega (arith, P.place, P.room), P.bytes)

  pub played_bad : (e : Refusal) → (length bs ≡ 0 → ⊥) → refuse (number_of e) ≡ number bs → all ≡ refuse (number_of e)
  played_bad e h k = absurd (never (sym (key_bad bs (number_of e) h k) ∙ P.left))
    where
      never : refuse (number_of e) ≡ accept P.ks → ⊥
      never h = cc

  -- a key, followed by a navigator that is the graph's
  module _ {v : ℕ} {next : List ℕ} (num : accept (v, next) ≡ number bs) (r : ℕ × Prelude.Result (Unit {0}) Refusal) (y : key.State ℕ)
      {nav : Navigator ℕ} (en : nav ≡ graph_navigator g) (e : key_of r y ≡ input_key nav (record { key = v; budget = budget }) x) where
    abbrev Q : List Pair
    Q = y.shared.queue

    abbrev rest : List ℕ
    rest = (key_first bs next v num P.ks P.left).0

    -- what is come to after the key, in the definition's words
    abbrev after : Result (key.State ℕ) → Result (List Pair)
    after m = m >>= λ m. unless (leb (length (pair_bytes (P.ps ++ m.shared.queue))) (length out₀)) 10 (play_keys budget (length out₀) rest (emptied (machine_with g cs x) m) (P.ps ++ m.shared.queue))

    turned : after (told (λ _. y) r.1) ≡ all
    unfolding play_keys key_call
    turned =
        ap (λ k. after k.result) (e ∙ ap (λ n. input_key n (record { key = v; budget = budget }) x) en)
        ∙ ap (λ ks. play_keys budget (length out₀) ks (machine_with g cs x) P.ps) (key_first bs next v num P.ks P.left).2
        ∙ P.same

    long : length (pair_bytes (P.ps ++ Q)) ≡ at + length (pair_bytes Q)
    long = ap length (pairs_append P.ps Q) ∙ length-append (pair_bytes P.ps) (pair_bytes Q) ∙ ap (λ n. n + length (pair_bytes Q)) (sym P.place)

    pub key_refused : (f : Refusal) → r.1 ≡ Err f → all ≡ refuse (number_of f)
    key_refused f h = sym turned ∙ ap (λ a. after (told (λ _. y) a)) h

    module _ (ok : r.1 ≡ Ok tt) where
      accepted : after (accept y) ≡ all
      accepted = ap (λ a. after (told (λ _. y) a)) (sym ok) ∙ turned

      pub key_full : (f : Refusal) → refuse (number_of f) ≡ put_all (pair_numbers Q) (at, out) → all ≡ refuse (number_of f)
      key_full f k =
          let l : at ≤ length out = omega (arith, P.room, P.long) in
          let h = full (pair_bytes Q) at out (number_of f) (k ∙ pairs_placed Q at out l) in
          sym accepted ∙ ap (λ b. unless b 10 (play_keys budget (length out₀) rest (emptied (machine_with g cs x) y) (P.ps ++ Q))) (lt-leb (length (pair_bytes (P.ps ++ Q))) (length out₀) (omega (arith, long, h.1, P.long))) ∙ ap refuse (sym h.0)

      pub key_played : (q : Page) → accept q ≡ put_all (pair_numbers Q) (at, out) → length q.1 ≡ length out → All Small Q → Playing g cs t budget out₀ ks₀ next (key.at y.place (with_queue [] y.shared)) q.0 q.1
      key_played q k el small =
          let l : at ≤ length out = omega (arith, P.room, P.long) in
          let h = fitted (pair_bytes Q) at out q (k ∙ pairs_placed Q at out l) in
          let w : length (pair_bytes (P.ps ++ Q)) ≤ length out₀ = omega (arith, long, h.0, P.long) in
          let a : q.0 ≡ at + length (pair_bytes Q) = ap (λ (p : Page). p.0) h.1 in
          record {
            ks = rest;
            ps = P.ps ++ Q;
            left = (key_first bs next v num P.ks P.left).1;
            same = ap (λ b. unless b 10 (play_keys budget (length out₀) rest (emptied (machine_with g cs x) y) (P.ps ++ Q))) (sym (le-leb (length (pair_bytes (P.ps ++ Q))) (length out₀) w)) ∙ accepted;
            place = a ∙ sym long;
            room = omega (arith, a, h.0, P.long);
            long = el ∙ P.long;
            bytes = ap (λ (p : Page). p.1) h.1
                ∙ ap (λ n. laid n (pair_bytes Q) out) (P.place ∙ sym (zero-add (length (pair_bytes P.ps))))
                ∙ ap (laid (0 + length (pair_bytes P.ps)) (pair_bytes Q)) P.bytes
                ∙ laid_laid 0 (pair_bytes P.ps) (pair_bytes Q) out₀ (omega (arith, P.place, h.0, P.long))
                ∙ ap (λ bs. laid 0 bs out₀) (sym (pairs_append P.ps Q));
            small = All-append Small P.ps Q P.small small;
          }
