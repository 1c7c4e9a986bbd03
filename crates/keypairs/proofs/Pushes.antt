-- Rules and actions are done in their order, up to the first refusal: the first of those that are left, and then those behind it.
use Rattle.std.proofs.Common.{◌≡◌, ℕ, ◌+◌, ◌<◌, List, length, drop, get_or, map, ◌≤◌, add-one}
use lib.ListN.{set, drop_of_length-le}
use lib.Seq.{drop-cons}
use Rattle.std.specs.Prelude
use Rattle.std.specs.Prelude.{Ok, Err, Some, None}
use Rattle.std.proofs.lemmas.List.{get_or-map, map-set}
use Rattle.rules.specs.Basics.{accept, refuse, ◌>>=◌}
use Rattle.rules.specs.Values.{Pair, Context}
use Rattle.rules.specs.Tables.{Status}
use Rattle.rules.specs.KeyLoop.{Tracker, no_tracker, track, Shared, apply_rule, apply_rules, push, push_all}
use Rattle.keyvalues.specs.declared.refusal.Refusal.{Refusal}
use Rattle.keyvalues.specs.View.{told}
use Rattle.keyvalues.specs.declared.tables.RuleWord.{RuleWord}
use Rattle.keytables.specs.View.{rule_of}
use Rattle.keypairs.specs.declared.tracker.SequenceTracker.{SequenceTracker}
use Rattle.keypairs.specs.View.{tracker_by, trackers_of}

-- a rule more, or none
module _ (ws : List RuleWord) (mode i : ℕ) (d : RuleWord) (p : Pair) (ts : List Tracker) (h : i < length ws) where
  rules_here : apply_rules (map rule_of (drop i ws)) mode p ts ≡ (apply_rule mode p (rule_of (get_or ws i d)) ts >>= λ t. apply_rules (map rule_of (drop (i + 1) ws)) mode p t)
  unfolding apply_rules
  rules_here = rw (drop-cons ws i d h, add-one)

  pub rules_more : (ts' : List Tracker) → accept ts' ≡ apply_rule mode p (rule_of (get_or ws i d)) ts → apply_rules (map rule_of (drop (i + 1) ws)) mode p ts' ≡ apply_rules (map rule_of (drop i ws)) mode p ts
  rules_more ts' e = rw (rules_here, ← e)

  pub rules_refused : (n : ℕ) → refuse n ≡ apply_rule mode p (rule_of (get_or ws i d)) ts → refuse n ≡ apply_rules (map rule_of (drop i ws)) mode p ts
  rules_refused n e = rw (rules_here, ← e)

pub rules_none : (ws : List RuleWord) (mode i : ℕ) (p : Pair) (ts : List Tracker) → length ws ≤ i → accept ts ≡ apply_rules (map rule_of (drop i ws)) mode p ts
unfolding apply_rules
rules_none ws mode i p ts h = rw (drop_of_length-le ws h)

-- a rule that matches tracks its sequence
module _ (ss : List SequenceTracker) (q : ℕ) (d new : SequenceTracker) (h : q < length ss) (st : Status) (p : Pair) where
  pub rule_tracks : (r : Prelude.Result (Unit {0}) Refusal) → told (λ _. tracker_by new) r ≡ track st p (tracker_by (get_or ss q d))
      → told (λ _. trackers_of (set ss q new)) r ≡ (track st p (get_or (trackers_of ss) q no_tracker) >>= λ t. accept (set (trackers_of ss) q t))
  rule_tracks (Ok u) e = rw (get_or-map tracker_by ss q d no_tracker h, ← e, map-set tracker_by ss q new)
  rule_tracks (Err n) e = rw (get_or-map tracker_by ss q d no_tracker h, ← e)

-- an action more, or none
module _ (acts : List ℕ) (i : ℕ) (x : Context) (c : Shared) (h : i < length acts) where
  actions_here : push_all (drop i acts) x c ≡ (push (record { action = get_or acts i 0; context = x }) c >>= push_all (drop (i + 1) acts) x)
  unfolding push_all
  actions_here = rw (drop-cons acts i 0 h, add-one)

  pub actions_more : (c' : Shared) → accept c' ≡ push (record { action = get_or acts i 0; context = x }) c → push_all (drop (i + 1) acts) x c' ≡ push_all (drop i acts) x c
  actions_more c' e = rw (actions_here, ← e)

  pub actions_refused : (n : ℕ) → refuse n ≡ push (record { action = get_or acts i 0; context = x }) c → refuse n ≡ push_all (drop i acts) x c
  actions_refused n e = rw (actions_here, ← e)

pub actions_none : (acts : List ℕ) (i : ℕ) (x : Context) (c : Shared) → length acts ≤ i → accept c ≡ push_all (drop i acts) x c
unfolding push_all
actions_none acts i x c h = rw (drop_of_length-le acts h)
