-- Fetching leaves the overridden pairs in the sequence's words, which are copied before those of the queue.
use Rattle.std.proofs.Common.{◌≡◌, refl, sym, ap, ◌∙◌, ℕ, ◌<◌, ◌+◌, List, ◌++◌, length, map, get_or, take, arith}
use mathlib.Core.List.{map-append}
use lib.ListN.{set, length-map, length-take, length-set}
use Rattle.std.proofs.lemmas.List.{get_or-map, take_min, get_or-set_same}
use mathlib.Core.Option.{Option}
use Rattle.rules.specs.Values.{Pair, Context}
use Rattle.rules.specs.KeyLoop.{Tracker, no_tracker, fetch, override}
use Rattle.keypairs.specs.declared.tracker.SequenceTracker.{SequenceTracker}
use Rattle.keypairs.specs.declared.live.Live.{Live}
use Rattle.keypairs.specs.View.{fetched_at, over_of, pair_of, pairs_of, tracker_by, trackers_of, machine_by}
use Rattle.keypairs.proofs.Calls.{repeat_full, repeat_done}
use borrow.Author.Rules.{rules}
use Rattle.keypairs.proofs.live.Live.repeat.Goals as goal

-- the sequence of a number after fetching it
module _ (ss : List SequenceTracker) (q : ℕ) (o : Option Context) (h : q < length ss) where
  abbrev Kept : Tracker
  Kept = fetch o (get_or (trackers_of ss) q no_tracker)

  -- it has as many pairs as before
  counts : (d : SequenceTracker) (n : ℕ) → n ≡ length (tracker_by (get_or ss q d)).pairs → n ≡ length Kept.pairs
  unfolding fetch
  counts d n e = let t : Tracker = get_or (trackers_of ss) q no_tracker in
      e ∙ ap (λ (z : Tracker). length z.pairs) (sym (get_or-map tracker_by ss q d no_tracker h)) ∙ sym (length-map t.pairs (override o))

  -- and is read where it stands
  stands : (new : List SequenceTracker) (d : SequenceTracker) (n : ℕ) → (trackers_of new, n) ≡ fetched_at q o (trackers_of ss) → tracker_by (get_or new q d) ≡ Kept
  stands new d n e =
      let old : List Tracker = trackers_of ss in
      let ts : trackers_of new ≡ set old q Kept = ap (λ (p : List Tracker × ℕ). p.0) e in
      let k : q < length old = omega (arith, length-map ss tracker_by, h) in
      let l : q < length new = omega (arith, ap length ts, length-map new tracker_by, length-set old q Kept, k) in
      sym (get_or-map tracker_by new q d no_tracker l) ∙ ap (λ (z : List Tracker). get_or z q no_tracker) ts ∙ get_or-set_same old q Kept no_tracker k

pub returns-then-count-waiting-gt256 : goal.returns-then-count-waiting-gt256
returns-then-count-waiting-gt256 c gr ks t = let a = c.args in let s = a.self.now in let q = a.sequence in let o = over_of a.over in
    let l : length s.sequences ≡ 8 = search rules in
    let i : q < length s.sequences = omega (arith, l, c.if-sequence-ge-SEQUENCES.false) in
    let k : length c.waiting-waiting.result.now ≡ length (pairs_of s.state.queued s.queue) = ap length c.waiting-waiting.ensures ∙ sym (length-map (take s.state.queued s.queue) pair_of) in
    repeat_full (machine_by gr ks t s) q o c.if-sequence-ge-SEQUENCES.false (Kept s.sequences q o i) _ _ refl (counts s.sequences q o i _ _ c.count-count.ensures.value) k c.if-count-waiting-gt256.true

pub put_before-requires : goal.put_before-requires
put_before-requires c = let a = c.args in let s = a.self.now in let q = a.sequence in let o = over_of a.over in let f = c.fetch-self in
    let l : length s.sequences ≡ 8 = search rules in
    let w : length f.new.self.queue ≡ 256 = ap (λ (l : Live). length l.queue) f.ensures.rest ∙ search rules in
    let i : q < length s.sequences = omega (arith, l, c.if-sequence-ge-SEQUENCES.false) in
    let pairs = c.words.ensures ∙ ap (λ (z : Tracker). z.pairs) (stands s.sequences q o i f.new.self.sequences _ _ f.ensures.fetched) in
    omega (arith, length-map c.words.result.now pair_of, ap length pairs, counts s.sequences q o i _ _ c.count-count.ensures.value, w, c.if-count-waiting-gt256.false)

pub returns : goal.returns
returns c gr ks t = let a = c.args in let s = a.self.now in let q = a.sequence in let o = over_of a.over in let f = c.fetch-self in
    let l : length s.sequences ≡ 8 = search rules in
    let i : q < length s.sequences = omega (arith, l, c.if-sequence-ge-SEQUENCES.false) in
    let x : Tracker = Kept s.sequences q o i in
    let ws : List ℕ = c.words.result.now in
    let W : List ℕ = c.waiting-waiting.result.now in
    let pairs : map pair_of ws ≡ x.pairs = c.words.ensures ∙ ap (λ (z : Tracker). z.pairs) (stands s.sequences q o i f.new.self.sequences _ _ f.ensures.fetched) in
    let n = counts s.sequences q o i _ _ c.count-count.ensures.value in
    let same : c.count-count.result ≡ length ws = n ∙ sym (ap length pairs) ∙ length-map ws pair_of in
    let k : length W ≡ length (pairs_of s.state.queued s.queue) = ap length c.waiting-waiting.ensures ∙ sym (length-map (take s.state.queued s.queue) pair_of) in
    let front : take (length W) f.new.self.queue ≡ take s.state.queued s.queue
    = ap (λ (l : Live). take (length W) l.queue) f.ensures.rest ∙ ap (λ (j : ℕ). take j s.queue) (ap length c.waiting-waiting.ensures ∙ length-take s.state.queued s.queue) ∙ take_min s.state.queued s.queue in
    let Q : pairs_of (c.count-count.result + length W) c.put_before.new.queue ≡ x.pairs ++ pairs_of s.state.queued s.queue
    = ap (λ (j : ℕ). pairs_of (j + length W) c.put_before.new.queue) same ∙ ap (map pair_of) (c.put_before.ensures ∙ ap (λ (z : List ℕ). ws ++ z) front)
    ∙ map-append pair_of ws (take s.state.queued s.queue) ∙ ap (λ (z : List Pair). z ++ pairs_of s.state.queued s.queue) pairs in
    rw (ap (λ (l : Live). l.trail) f.ensures.rest, ap (λ (l : Live). l.state) f.ensures.rest)
    (repeat_done (machine_by gr ks t s) q o c.if-sequence-ge-SEQUENCES.false x _ _ refl n k _ _ c.if-count-waiting-gt256.false Q (ap (λ (p : List Tracker × ℕ). p.0) f.ensures.fetched))
