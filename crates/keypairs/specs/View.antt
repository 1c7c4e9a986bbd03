-- What the words of pairs and sequences and the declared types mean, in the values of the rules. Every word decodes to something.
use Rattle.std.specs.Prelude
use Rattle.std.specs.Prelude.{Some, None, ℕ, ◌/◌, ◌%◌, true, List, [], ◌∷◌, ◌++◌, map, eqb, ltb, length, take, get_or, set, if◌then◌else◌}
use Rattle.std.proofs.Math.Option
use Rattle.std.proofs.Math.Option.{Option, none, some}
use Rattle.rules.specs.Basics.{Result, accept, ◌>>=◌, unless}
use Rattle.rules.specs.Values as v
use Rattle.rules.specs.Tables as t
use Rattle.rules.specs.KeyLoop as key
use Rattle.rules.specs.Calls as c
use Rattle.rules.specs.Graph as g
use Rattle.keypairs.specs.declared.context.Context.{Context}
use Rattle.keypairs.specs.declared.pair.Pair.{Pair}
use Rattle.keypairs.specs.declared.tracker.Status.{Status}
use Rattle.keypairs.specs.declared.tracker.Status.TheVariants.{Atom, Break, Ignore, Restart, Track}
use Rattle.keypairs.specs.declared.tracker.SequenceTracker.{SequenceTracker}
use Rattle.keypairs.specs.declared.live.Live.{Live}

-- ---- context and pair

abbrev pub context_of : Context → v.Context
context_of x = record { count = x.count; typed = x.typed; mark = x.mark }

-- the context in the word of a pair
abbrev pub context_in : ℕ → v.Context
context_in w = record { count = w / 65536 % 65536; typed = eqb (w / 562949953421312 % 2) 1; mark = w / 4294967296 % 65536 }

abbrev pub over_of : Prelude.Option Context → Option v.Context
over_of None = none
over_of (Some x) = some (context_of x)

abbrev pub pair_by : Pair → v.Pair
pair_by p = record { action = p.action; context = context_of p.context }

unfoldable pub pair_of : ℕ → v.Pair
pair_of w = record { action = w % 65536; context = context_in w }

-- the first n words, each a pair
abbrev pub pairs_of : ℕ → List ℕ → List v.Pair
pairs_of n ws = map pair_of (take n ws)

-- ---- sequences

abbrev pub status_by : Status → t.Status
status_by Atom = t.Atom
status_by Break = t.Break
status_by Ignore = t.Ignore
status_by Restart = t.Restart
status_by Track = t.Track

-- the head is twice the number of pairs, and one more if the sequence is broken
unfoldable pub tracker_by : SequenceTracker → key.Tracker
tracker_by s = key.tracker (pairs_of (s.head / 2) s.pairs) (eqb (s.head % 2) 1)

abbrev pub broke : key.Tracker → key.Tracker
broke s = key.tracker s.pairs true

abbrev pub trackers_of : List SequenceTracker → List key.Tracker
trackers_of ss = map tracker_by ss

-- a sequence after fetching it, and how many pairs it has
abbrev pub fetched_by : Option v.Context → key.Tracker → key.Tracker × ℕ
fetched_by o t = (key.fetch o t, length t.pairs)

-- the sequences after fetching that of a number, and how many pairs it has; where no sequence has the number, none
abbrev pub fetched_at : ℕ → Option v.Context → List key.Tracker → List key.Tracker × ℕ
fetched_at q o ts = (set ts q (key.fetch o (get_or ts q key.no_tracker)), length (get_or ts q key.no_tracker).pairs)

-- ---- the live state, over tables

abbrev pub shared_of : t.Tables → Live → key.Shared
shared_of t l = record {
  tables = t;
  mode = l.state.mode;
  context = context_in l.state.context;
  queue = pairs_of l.state.queued l.queue;
  trail = take l.state.trailed l.trail;
  sequences = trackers_of l.sequences;
}

-- a count above an array's length is the whole array, so that every value of the struct is some live state
abbrev pub live_of : t.Tables → Live → key.State ℕ
live_of t l = key.at l.state.place (shared_of t l)

-- the live state over a graph, kept calls and tables
abbrev pub machine_by : g.Graph → List v.Binding → t.Tables → Live → c.Machine c.graph_kind
machine_by gr ks t l = record { bindings = gr; kept = ks; state = live_of t l }

-- ---- answers

abbrev pub pop_of : Prelude.Option Pair → c.Answer
pop_of (Some p) = c.Popped (pair_by p)
pop_of None = c.Nothing

-- ---- what a round does

-- the hook of the event that was gone by, if any: 12 the count would pass 65,535
abbrev pub hooked : Option v.Event → ℕ → key.State ℕ → Result (key.State ℕ)
hooked o k m = do c₁ ← key.run_hook o k m.shared; accept (key.at m.place c₁)

-- a key joins the trail: 7 where 64 keys are on it already
abbrev pub joined : ℕ → key.State ℕ → Result (key.State ℕ)
joined k m =
    unless (ltb (length m.shared.trail) 64) 7
    (accept (key.at m.place (key.with_trail (m.shared.trail ++ (k ∷ [])) m.shared)))

-- actions are given, or action 0 if there are none, and then the next mode is entered, or the entered one anew
abbrev pub give_goto : g.Graph → List ℕ → Option ℕ → key.Shared → Result (key.State ℕ)
give_goto gr acts next c₀ = do
  c₁ ← key.give_all (key.or_default acts) c₀
  key.goto_mode (c.graph_navigator gr) (Option.get_or next c₁.mode) c₁
