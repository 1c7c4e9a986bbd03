-- The first word of the queue is popped, and the others move up by one. A repeat is refused past the last sequence and where the
-- queue has no room, and else its pairs go before those of the queue.
use Prim.Native.Nat.{ℕ, ◌+◌, ◌-◌, ◌≤◌, ◌<◌, min}
use mathlib.Core.Path.{◌≡◌, refl, sym, ap, ◌∙◌}
use mathlib.Core.Option.{Option}
use mathlib.Core.List.{List, [], ◌∷◌, ◌++◌, map}
use native.Mathlib.Omega.{arith}
use lib.ListN.{length, take, drop, set, get_or, length-take}
use Rattle.std.proofs.lemmas.List.{take_min, drop-take}
use borrow.Author.Tests.{lt-ltb, le-ltb, le-leb, lt-leb}
use Rattle.rules.specs.Values.{Context, Pair}
use Rattle.rules.specs.KeyLoop.{Tracker, no_tracker, fetch, with_queue, with_sequences, repeat_sequence}
use Rattle.rules.specs.Calls.{Machine, with_shared, settled, popped, repeat_call, call, Pop, Repeats, graph_kind, Accepted, Refused, Popped, Nothing}
use Rattle.keypairs.specs.View.{pair_of}

-- ---- pop

-- n words of which the first is taken away
pub shifted : (ws : List ℕ) (queued n : ℕ) → n ≡ length (take queued ws) → (n ≡ 0 → ⊥) → take (n - 1) (drop 1 ws) ≡ drop 1 (take queued ws)
shifted ws queued n e h =
    let m : n ≡ min queued (length ws) = e ∙ length-take queued ws in
    let d : 1 + (n - 1) ≡ n = omega arith in
    let t : take n ws ≡ take queued ws = ap (λ (k : ℕ). take k ws) m ∙ take_min queued ws in
    sym (drop-take 1 (n - 1) ws) ∙ ap (λ (k : ℕ). drop 1 (take k ws)) d ∙ ap (drop 1) t

module _ (s : Machine graph_kind) (ws : List ℕ) (eq : s.state.shared.queue ≡ map pair_of ws) where
  pub pop_none : length ws ≡ 0 → (s, Nothing) ≡ call graph_kind s Pop
  unfolding call popped
  pop_none h = rw (eq, none ws h)
    where
      none : (ws : List ℕ) → length ws ≡ 0 → ws ≡ []
      none [] h = refl
      none (w ∷ ws) h = absurd (omega arith)

  pub pop_some : (w : ℕ) → (length ws ≡ 0 → ⊥) → w ≡ get_or ws 0 0 → (with_shared graph_kind s (with_queue (map pair_of (drop 1 ws)) s.state.shared), Popped (pair_of w)) ≡ call graph_kind s Pop
  unfolding call popped
  pop_some w h e = rw (eq, e, split ws h)
    where
      split : (ws : List ℕ) → (length ws ≡ 0 → ⊥) → ws ≡ get_or ws 0 0 ∷ drop 1 ws
      split [] h = absurd (h refl)
      split (w ∷ ws) h = refl

-- ---- repeat

module _ (s : Machine graph_kind) (q : ℕ) (o : Option Context) where
  pub repeat_none : 8 ≤ q → (s, Refused 1) ≡ call graph_kind s (Repeats q o)
  unfolding call settled repeat_call repeat_sequence
  repeat_none h = rw (le-ltb q 8 h)

  module _ (h : q < 8) (t : Tracker) (n k : ℕ) (et : t ≡ fetch o (get_or s.state.shared.sequences q no_tracker)) (en : n ≡ length t.pairs) (ek : k ≡ length s.state.shared.queue) where
    pub repeat_full : 256 < n + k → (s, Refused 5) ≡ call graph_kind s (Repeats q o)
    unfolding call settled repeat_call repeat_sequence
    repeat_full l = rw (lt-ltb q 8 h, ← et, lt-leb (length t.pairs + length s.state.shared.queue) 256 (omega arith))

    pub repeat_done : (Q : List Pair) (ts : List Tracker) → n + k ≤ 256 → Q ≡ t.pairs ++ s.state.shared.queue → ts ≡ set s.state.shared.sequences q t
        → (with_shared graph_kind s (with_queue Q (with_sequences ts s.state.shared)), Accepted) ≡ call graph_kind s (Repeats q o)
    unfolding call settled repeat_call repeat_sequence
    repeat_done Q ts l eQ ets = rw (lt-ltb q 8 h, ← et, le-leb (length t.pairs + length s.state.shared.queue) 256 (omega arith), eQ, ets)
