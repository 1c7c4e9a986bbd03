-- The head of a sequence says how many of its words are pairs, and one more if it is broken. So a pair behind the first n, with a
-- head that counts it, makes them one more, and no head counts more pairs than there are words.
use Rattle.std.proofs.Common.{◌≡◌, ap, ◌∙◌, ℕ, ◌+◌, ◌*◌, ◌/◌, ◌%◌, ◌<◌, ◌≤◌, List, [], ◌∷◌, ◌++◌, length, map, take, get_or, min, arith, add-one}
use mathlib.Core.List.{map-append}
use lib.ListN.{set, length-take, length-map}
use lib.Seq.{take-suc-set}
use Rattle.std.proofs.lemmas.List.{take_min, get_or-map, map-set, set_past, get_or_past}
use lib.Dec.{eqb}
use mathlib.Core.Bool.{Bool}
use mathlib.Core.Option.{Option}
use Rattle.rules.specs.Values.{Context}
use Rattle.rules.specs.KeyLoop.{Tracker, tracker, no_tracker, fetch}
use Rattle.keypairs.specs.declared.tracker.SequenceTracker.{SequenceTracker}
use Rattle.keypairs.specs.View.{pair_of, pairs_of, tracker_by, trackers_of, broke, fetched_by, fetched_at}

-- the list of pairs after a store behind it
pairs_more : (ws : List ℕ) (n w : ℕ) → n < length ws → pairs_of (n + 1) (set ws n w) ≡ pairs_of n ws ++ (pair_of w ∷ [])
pairs_more ws n w h = rw (add-one, take-suc-set ws n w h, map-append pair_of (take n ws) (w ∷ []))

pub length_pairs : (n : ℕ) (ws : List ℕ) → length (pairs_of n ws) ≡ min n (length ws)
length_pairs n ws = length-map (take n ws) pair_of ∙ length-take n ws

-- as many words as there are pairs are those that the head counts
pub front_words : (s : SequenceTracker) (n : ℕ) → n ≡ length (tracker_by s).pairs → map pair_of (take n s.pairs) ≡ (tracker_by s).pairs
unfolding tracker_by
front_words s n e = rw (e, length_pairs (s.head / 2) s.pairs, take_min (s.head / 2) s.pairs)

-- the head keeps its count and gets its mark
pub broken_is : (s : SequenceTracker) → tracker_by (record { head = s.head / 2 * 2 + 1; pairs = s.pairs }) ≡ broke (tracker_by s)
unfolding tracker_by
broken_is s =
    let half : (s.head / 2 * 2 + 1) / 2 ≡ s.head / 2 = omega arith in
    let odd : (s.head / 2 * 2 + 1) % 2 ≡ 1 = omega arith in
    rw (half, odd)

-- a sequence with a pair behind n others, and a head that counts it
pub put_is : (ws : List ℕ) (n w k : ℕ) (broken : Bool) → n < length ws → k < 2 → eqb k 1 ≡ broken
    → tracker_by (record { head = 2 * (n + 1) + k; pairs = set ws n w }) ≡ tracker (pairs_of n ws ++ (pair_of w ∷ [])) broken
unfolding tracker_by
put_is ws n w k broken h l e =
    let half : (2 * (n + 1) + k) / 2 ≡ n + 1 = omega arith in
    let odd : (2 * (n + 1) + k) % 2 ≡ k = omega arith in
    rw (half, odd, pairs_more ws n w h, e)

-- the sequence of a number is fetched where it stands, and past the last one there is none
module _ (ss : List SequenceTracker) (q : ℕ) (o : Option Context) where
  pub fetched_in : (d new : SequenceTracker) (n : ℕ) → q < length ss → (tracker_by new, n) ≡ fetched_by o (tracker_by (get_or ss q d)) → (trackers_of (set ss q new), n) ≡ fetched_at q o (trackers_of ss)
  fetched_in d new n h e = rw (map-set tracker_by ss q new, get_or-map tracker_by ss q d no_tracker h) (ap (λ (p : Tracker × ℕ). (set (trackers_of ss) q p.0, p.1)) e)

  pub fetched_out : length ss ≤ q → (trackers_of ss, 0) ≡ fetched_at q o (trackers_of ss)
  unfolding no_tracker
  fetched_out h = let l : length (trackers_of ss) ≤ q = omega (arith, length-map ss tracker_by) in
      rw (set_past (trackers_of ss) q (fetch o (get_or (trackers_of ss) q no_tracker)) l, get_or_past (trackers_of ss) q no_tracker l)
