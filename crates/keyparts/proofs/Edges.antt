-- An edge's word: its start and its event's code are the upper part, so one comparison tells both.
use Prim.Native.Nat.{ℕ, ◌+◌, ◌*◌, ◌<◌}
use mathlib.Core.Path.{◌≡◌, subst}
use native.Mathlib.Omega.{arith}
use Rattle.std.proofs.lemmas.Bool.Decides.{nat_tests}
use Rattle.rules.specs.Values.{Event}
use Rattle.rules.specs.Graph.{is_edge}
use Rattle.keyvalues.specs.View.{event_at, event_code}
use Rattle.keyvalues.proofs.Words.{same_code}
use Rattle.keyparts.specs.declared.edge.EdgeWord.{EdgeWord}
use Rattle.keyparts.specs.View.{edge_of, key_is}

pub key_coded : (n code : ℕ) (w : EdgeWord) → n < 65536 → is_edge n (event_at code) (edge_of w) ≡ key_is (n + code * 65536) w
unfolding is_edge edge_of key_is
key_coded n code w h = rw same_code (grind (arith, nat_tests))

pub word_coded : (from code to : ℕ) (w : EdgeWord) → from < 65536 → to < 65536 → w.word ≡ to + 65536 * (from + code * 65536) → edge_of w ≡ record { from = from; event = event_at code; to = to }
unfolding edge_of
word_coded from code to w hf ht e = grind arith

-- an event that has a code
module _ (n : ℕ) (ev : Event) (hn : n < 65536) (coded : event_at (event_code ev) ≡ ev) where
  pub edge_key : (w : EdgeWord) → is_edge n ev (edge_of w) ≡ key_is (n + event_code ev * 65536) w
  edge_key w = subst (λ (e : Event). is_edge n e (edge_of w) ≡ key_is (n + event_code ev * 65536) w) coded (key_coded n (event_code ev) w hn)

  pub edge_word : (to : ℕ) (w : EdgeWord) → to < 65536 → w.word ≡ to + 65536 * (n + event_code ev * 65536) → edge_of w ≡ record { from = n; event = ev; to = to }
  edge_word to w ht e = subst (λ (v : Event). edge_of w ≡ record { from = n; event = v; to = to }) coded (word_coded n (event_code ev) to w hn ht e)
