-- Document 01, "Key loop": the loop of `input_key` over any way of following keys, with `push`, `goto_mode`, `unmapped`,
-- `step`, `repeat` and `reset_mode`; and document 02's walk along the trail in a new map. The graph machine and the list reader
-- share everything in this file.
use Rattle.std.specs.Prelude.{ℕ, zero, suc, ◌+◌, Bool, true, false, List, [], ◌∷◌, ◌++◌, map, leb, ltb, length, get_or, set, drop, replicate, if◌then◌else◌}
use Rattle.std.proofs.Math.Option
use Rattle.std.proofs.Math.Option.{Option, none, some}
use Rattle.rules.specs.Basics.{Result, accept, refuse, ◌>>=◌, unless}
use Rattle.rules.specs.Values.{sequence_count, most_queued, most_tracked, most_trail, decomposes, first_key, rest_of, is_sequence, default_mode, default_action}
use Rattle.rules.specs.Values.{Event, Step, Context, no_context, hook, take, merge, Pair}
use Rattle.rules.specs.Tables.{ClassEntry, mode_entry, Status, Atom, Break, Ignore, Restart, Track, status_of, Rule, matches, Tables}

-- ---- remembered sequences

-- `broken`: the next Track starts anew; else the sequence is still being tracked
pub record Tracker : Type 0 where
  pub pairs : List Pair
  pub broken : Bool

abbrev pub tracker : List Pair → Bool → Tracker
tracker ps b = record { pairs = ps; broken = b }

unfoldable pub no_tracker : Tracker
no_tracker = tracker [] false

-- `SequenceTracker::push`: 6 where a Track finds 64 pairs
unfoldable pub track : Status → Pair → Tracker → Result Tracker
track Atom p t = accept (tracker (p ∷ []) true)
track Break p t = accept (tracker t.pairs true)
track Ignore p t = accept t
track Restart p t = accept (tracker (p ∷ []) false)
track Track p t =
    if t.broken
    then accept (tracker (p ∷ []) false)
    else unless (ltb (length t.pairs) most_tracked) 6 (accept (tracker (t.pairs ++ (p ∷ [])) false))

unfoldable pub override : Option Context → Pair → Pair
override none p = p
override (some over) p = record { action = p.action; context = merge p.context over }

-- `SequenceTracker::fetch`: the remembered pairs are merged one by one, and stored so
unfoldable pub fetch : Option Context → Tracker → Tracker
fetch over t = tracker (map (override over) t.pairs) t.broken

-- ---- all of a machine but its bindings and its place

pub record Shared : Type 0 where
  pub tables : Tables
  pub mode : ℕ
  pub context : Context
  pub queue : List Pair
  pub trail : List ℕ
  pub sequences : List Tracker

-- fresh: mode 0, no pair, no trail
unfoldable pub fresh_shared : Tables → Shared
fresh_shared t = record { tables = t; mode = default_mode; context = no_context; queue = []; trail = []; sequences = replicate sequence_count no_tracker }

abbrev pub with_tables : Tables → Shared → Shared
with_tables x c = record { tables = x; mode = c.mode; context = c.context; queue = c.queue; trail = c.trail; sequences = c.sequences }

abbrev pub with_mode : ℕ → Shared → Shared
with_mode x c = record { tables = c.tables; mode = x; context = c.context; queue = c.queue; trail = c.trail; sequences = c.sequences }

abbrev pub with_context : Context → Shared → Shared
with_context x c = record { tables = c.tables; mode = c.mode; context = x; queue = c.queue; trail = c.trail; sequences = c.sequences }

abbrev pub with_queue : List Pair → Shared → Shared
with_queue x c = record { tables = c.tables; mode = c.mode; context = c.context; queue = x; trail = c.trail; sequences = c.sequences }

abbrev pub with_trail : List ℕ → Shared → Shared
with_trail x c = record { tables = c.tables; mode = c.mode; context = c.context; queue = c.queue; trail = x; sequences = c.sequences }

abbrev pub with_sequences : List Tracker → Shared → Shared
with_sequences x c = record { tables = c.tables; mode = c.mode; context = c.context; queue = c.queue; trail = c.trail; sequences = x }

-- ---- `push`

unfoldable pub apply_rule : ℕ → Pair → Rule → List Tracker → Result (List Tracker)
apply_rule mode p r ts =
    if matches r mode p.action
    then (do t ← track (status_of r.status) p (get_or ts r.sequence no_tracker); accept (set ts r.sequence t))
    else accept ts

-- all that match, in order
unfoldable pub apply_rules : List Rule → ℕ → Pair → List Tracker → Result (List Tracker)
apply_rules [] mode p ts = accept ts
apply_rules (r ∷ rs) mode p ts = do
  ts₁ ← apply_rule mode p r ts
  apply_rules rs mode p ts₁

-- first the entered mode's sequence rules, then the queue: 5 where 256 pairs wait
unfoldable pub push : Pair → Shared → Result Shared
push p c = do
  ts ← apply_rules c.tables.rules c.mode p c.sequences
  unless (ltb (length c.queue) most_queued) 5 (accept (with_queue (c.queue ++ (p ∷ [])) (with_sequences ts c)))

unfoldable pub push_all : List ℕ → Context → Shared → Result Shared
push_all [] x c = accept c
push_all (a ∷ rest) x c = do
  c₁ ← push (record { action = a; context = x }) c
  push_all rest x c₁

-- one `take`, whose context all the actions carry
unfoldable pub give_all : List ℕ → Shared → Result Shared
give_all acts c = let t = take c.context in push_all acts t.0 (with_context t.1 c)

-- ---- a place, and a way to follow keys

-- What one round comes to: the Rust's `InputResult`, and `Again` for the fallthrough to a node with no action
pub data InputResult : Type 0 where
  Again ClearTrail Consumed NeedMore Unmapped : InputResult
  RunStep RetryAfter : Step → InputResult

-- is more needed? Not where a key falls through, which is `Again`, `ClearTrail` or `RetryAfter`
unfoldable pub needs_more : InputResult → Bool
needs_more Again = false
needs_more ClearTrail = false
needs_more Consumed = false
needs_more NeedMore = true
needs_more Unmapped = false
needs_more (RunStep s) = false
needs_more (RetryAfter s) = false

-- One round: the event gone by, if any, the place come to, and what is to be done there
pub record Turn (P : Type 0) : Type 0 where
  pub event : Option Event
  pub place : P
  pub result : InputResult

-- What a store of bindings offers: one call of `follow_edge`, the root of a mode, and the mode of a place
pub record Navigator (P : Type 0) : Type 0 where
  pub turn : List ClassEntry → P → ℕ → Turn P
  pub root : ℕ → P
  pub mode_of : P → ℕ

-- What a key changes
pub record State (P : Type 0) : Type 0 where
  pub place : P
  pub shared : Shared

-- What a key call is given: the key and its budget of rounds
pub record Input : Type 0 where
  pub key : ℕ
  pub budget : ℕ

-- A key's result: the rounds made, and the new state or the refusal
pub record KeyResult (P : Type 0) : Type 0 where
  pub rounds : ℕ
  pub result : Result (State P)

-- the hook of the event that was gone by, if any
unfoldable pub run_hook : Option Event → ℕ → Shared → Result Shared
run_hook none k c = accept c
run_hook (some e) k c = do x ← hook e k c.context; accept (with_context x c)

unfoldable pub set_mark : Option ℕ → Shared → Shared
set_mark none c = c
set_mark (some x) c = with_context (record { count = c.context.count; typed = c.context.typed; mark = x }) c

-- action 0, if the list is empty
unfoldable pub or_default : List ℕ → List ℕ
or_default [] = default_action ∷ []
or_default (a ∷ rest) = a ∷ rest

module _ {P : Type 0} where
  abbrev pub at : P → Shared → State P
  at p c = record { place = p; shared = c }

  abbrev pub clear_trail : State P → State P
  clear_trail m = at m.place (with_trail [] m.shared)

  -- after round number `made`: on with the keys that are left, or the refusal
  unfoldable pub proceed : ℕ → (List ℕ → State P → KeyResult P) → Result (List ℕ × State P) → KeyResult P
  proceed made on (accept r) = on r.0 r.1
  proceed made on (refuse n) = record { rounds = made; result = refuse n }

module _ {P : Type 0} (nav : Navigator P) where
  -- enters the mode, even the same one, and takes
  unfoldable pub goto_mode : ℕ → Shared → Result (State P)
  goto_mode mode c = do
    c₁ ← give_all (mode_entry c.tables.modes mode).enter (with_mode mode c)
    accept (at (nav.root mode) c₁)

  -- the list is that of the node's mode; where this has no next mode, the entered one is entered again
  unfoldable pub unmapped : State P → Result (State P)
  unmapped m =
      let e = mode_entry m.shared.tables.modes (nav.mode_of m.place) in do
        c ← give_all (or_default e.unmapped) m.shared
        goto_mode (Option.get_or e.next c.mode) c

  -- no action and a next mode: action 0; with neither: nothing is given or taken, and the place stays
  unfoldable pub step_to : List ℕ → Option ℕ → State P → Result (State P)
  step_to [] none m = accept m
  step_to [] (some mode) m = do
    c ← give_all (default_action ∷ []) m.shared
    goto_mode mode c
  step_to (a ∷ rest) next m = do
    c ← give_all (a ∷ rest) m.shared
    goto_mode (Option.get_or next c.mode) c

  -- running a step first sets the mark
  unfoldable pub step : Step → State P → Result (State P)
  step s m = step_to s.actions s.next (at m.place (set_mark s.mark m.shared))

  -- ---- `input_key`

  -- what follows a round: the keys still to try, the next one first, and the state. 7 one more key for a trail of 64
  unfoldable pub after : InputResult → ℕ → List ℕ → State P → Result (List ℕ × State P)
  after Again k ks m = accept (k ∷ ks, m)
  after ClearTrail k ks m = accept (k ∷ ks, clear_trail m)
  after Consumed k ks m = accept (ks, clear_trail m)
  after NeedMore k ks m =
      unless (ltb (length m.shared.trail) most_trail) 7
      (accept (ks, at m.place (with_trail (m.shared.trail ++ (k ∷ [])) m.shared)))
  after Unmapped k ks m =
      if decomposes k
      then accept (first_key ∷ rest_of k ∷ ks, m)
      else (do m₁ ← unmapped (clear_trail m); accept (drop 1 (m.shared.trail ++ (k ∷ [])) ++ ks, m₁))
  after (RunStep s) k ks m = do m₁ ← step s (clear_trail m); accept (ks, m₁)
  after (RetryAfter s) k ks m = do m₁ ← step s (clear_trail m); accept (k ∷ ks, m₁)

  -- the event hook runs first, before any pair is given and before a key joins the trail
  unfoldable pub round : ℕ → List ℕ → State P → Result (List ℕ × State P)
  round k ks m =
      let turn = nav.turn m.shared.tables.classes m.place k in do
        c ← run_hook turn.event k m.shared
        after turn.result k ks (at turn.place c)

  -- `left` rounds may still be made and `made` have been: 8 one more is due and none is left
  unfoldable pub loop : (left made : ℕ) → List ℕ → State P → KeyResult P
  loop zero made [] m = record { rounds = made; result = accept m }
  loop zero made (k ∷ ks) m = record { rounds = made; result = refuse 8 }
  loop (suc left) made [] m = record { rounds = made; result = accept m }
  loop (suc left) made (k ∷ ks) m = proceed (suc made) (λ keys m₁. loop left (suc made) keys m₁) (round k ks m)

  unfoldable pub input_key : Input → State P → KeyResult P
  input_key i m = loop i.budget 0 (i.key ∷ []) m

  -- ---- `reset_mode`: every sequence is broken, and the trail is kept
  unfoldable pub reset_mode : State P → Result (State P)
  reset_mode m = goto_mode default_mode (with_sequences (map (λ s. tracker s.pairs true) m.shared.sequences) m.shared)

  -- ---- the trail in a new map (document 02, request (vi))

  -- by following only, without hooks: the place come to, if every key needs more
  unfoldable pub walk : List ClassEntry → List ℕ → P → Option P
  walk cs [] p = some p
  walk cs (k ∷ ks) p = let turn = nav.turn cs p k in if needs_more turn.result then walk cs ks turn.place else none

  -- the place come to, with the trail as it was; where there is none, the root, with no key on the trail
  unfoldable pub walked : Option P → Shared → State P
  walked (some p) c = at p c
  walked none c = at (nav.root c.mode) (with_trail [] c)

  -- the trail is walked from the root of the entered mode
  unfoldable pub resume : Shared → State P
  resume c = walked (walk c.tables.classes c.trail (nav.root c.mode)) c

-- ---- `repeat`: 1 sequence over 7; the merged pairs go before the queue: 5 it would pass 256
unfoldable pub repeat_sequence : ℕ → Option Context → Shared → Result Shared
repeat_sequence s over c =
    let t = fetch over (get_or c.sequences s no_tracker) in
    unless (is_sequence s) 1
    (unless (leb (length t.pairs + length c.queue) most_queued) 5
    (accept (with_queue (t.pairs ++ c.queue) (with_sequences (set c.sequences s t) c))))

-- ---- everything above, to be opened by one name where a run is computed
unfoldable pub open-KeyLoop : Unit {0}
unfolding no_tracker track override fetch fresh_shared apply_rule apply_rules push push_all give_all needs_more run_hook set_mark or_default proceed goto_mode unmapped step_to step after round loop input_key reset_mode walk walked resume repeat_sequence
open-KeyLoop = tt
