-- Document 01, "Refused calls, operation by operation": open, map, prefix, key, pop, repeat, reset and mode, and document 02's
-- change of map, on a machine over any store of bindings; the graph machine; lists of calls; find; and the node hint.
use Rattle.std.specs.Prelude.{ℕ, suc, ◌-◌, Bool, false, ◌&&◌, List, [], ◌∷◌, ◌++◌, eqb, ltb, length, if◌then◌else◌}
use Rattle.std.proofs.Math.Option.{Option, none, some}
use Rattle.rules.specs.Basics.{Result, accept, refuse, ◌>>=◌, unless, some_of}
use Rattle.rules.specs.Values.{mode_count, most_nodes, most_kept, is_mode, default_mode, Event, Part, Step, map_valid, prefix_valid, Binding, Maps, Prefixes, Context, Pair}
use Rattle.rules.specs.Tables.{Tables, tables_valid}
use Rattle.rules.specs.Graph.{NodeAction, Empty, Root, Holds, Node, Graph, fresh_graph, get_node, has_edges, Follow, Successor, FallsTo, NoSuccessor, follow_edge, add_mapping, add_prefix}
use Rattle.rules.specs.KeyLoop.{Shared, fresh_shared, with_tables, with_queue, Again, ClearTrail, Consumed, NeedMore, Unmapped, RunStep, RetryAfter, Turn, Navigator, State, at, Input, KeyResult, input_key, reset_mode, resume, repeat_sequence}

-- ---- calls and answers

pub data Call : Type 0 where
  Open : Tables → Call
  Map : ℕ → List Part → Step → Call
  Prefix : ℕ → List Part → Option Step → Call
  Press : Input → Call
  Pop : Call
  Repeats : ℕ → Option Context → Call
  Reset : Call
  Change : Tables → List Binding → Call

-- What a call answers: that it is accepted, or which refusal; a pop its pair or "nothing"; a key its rounds too, even where refused
pub data Answer : Type 0 where
  Accepted : Answer
  Refused : ℕ → Answer
  Popped : Pair → Answer
  Nothing : Answer
  Pressed : ℕ → Answer
  PressRefused : ℕ → ℕ → Answer

-- ---- a kind of machine: how it keeps its bindings, and how it follows keys through them

pub record Kind : Type 1 where
  pub Bindings : Type 0
  pub Place : Type 0
  pub none_yet : Bindings
  pub map_in : ℕ → List Part → Step → Bindings → Result Bindings
  pub prefix_in : ℕ → List Part → Option Step → Bindings → Result Bindings
  pub navigator : Bindings → Navigator Place

module _ (𝓚 : Kind) where
  -- `kept`: the accepted binding calls in order, those with an empty path too (document 02, request (i))
  pub record Machine : Type 0 where
    pub bindings : 𝓚.Bindings
    pub kept : List Binding
    pub state : State 𝓚.Place

  abbrev pub with_state : Machine → State 𝓚.Place → Machine
  with_state s m = record { bindings = s.bindings; kept = s.kept; state = m }

  abbrev pub with_shared : Machine → Shared → Machine
  with_shared s c = with_state s (at s.state.place c)

  abbrev pub navigate : Machine → Navigator 𝓚.Place
  navigate s = 𝓚.navigator s.bindings

  -- the fresh machine with tables: no binding, no call kept, and the place is the root of mode 0
  unfoldable pub fresh : Tables → Machine
  fresh t = record { bindings = 𝓚.none_yet; kept = []; state = at ((𝓚.navigator 𝓚.none_yet).root default_mode) (fresh_shared t) }

  -- open with tables: 1 where a value or a count is out of range
  unfoldable pub open_with : Tables → Result Machine
  open_with t = unless (tables_valid t) 1 (accept (fresh t))

  -- the machine with what a binding call came to, and the call kept: 11 when 1,024 are kept already
  unfoldable pub keep : Binding → Machine → 𝓚.Bindings → Result Machine
  keep x s b =
      unless (ltb (length s.kept) most_kept) 11
      (accept (record { bindings = b; kept = s.kept ++ (x ∷ []); state = s.state }))

  -- map: 1 likewise, then the refusals of adding as they are met, then 11
  unfoldable pub map_call : ℕ → List Part → Step → Machine → Result Machine
  map_call mode path st s = do
    b ← unless (map_valid mode path st) 1 (𝓚.map_in mode path st s.bindings)
    keep (Maps mode path st) s b

  -- prefix: the same
  unfoldable pub prefix_call : ℕ → List Part → Option Step → Machine → Result Machine
  prefix_call mode path st s = do
    b ← unless (prefix_valid mode path st) 1 (𝓚.prefix_in mode path st s.bindings)
    keep (Prefixes mode path st) s b

  unfoldable pub bind : Binding → Machine → Result Machine
  bind (Maps mode path st) s = map_call mode path st s
  bind (Prefixes mode path st) s = prefix_call mode path st s

  -- bindings in their order, up to the first refusal met
  unfoldable pub bind_all : List Binding → Machine → Result Machine
  bind_all [] s = accept s
  bind_all (x ∷ xs) s = do
    s₁ ← bind x s
    bind_all xs s₁

  -- key: rounds are made and reported, refused or not
  unfoldable pub key_call : Input → Machine → KeyResult 𝓚.Place
  key_call i s = input_key (navigate s) i s.state

  unfoldable pub repeat_call : ℕ → Option Context → Machine → Result Machine
  repeat_call q over s = do
    c ← repeat_sequence q over s.state.shared
    accept (with_shared s c)

  unfoldable pub reset_call : Machine → Result Machine
  reset_call s = do
    m ← reset_mode (navigate s) s.state
    accept (with_state s m)

  -- the next machine's tables, bindings and kept calls, with the queue, the sequences, the entered mode and the context of s, and
  -- its trail as it is walked there (document 02, request (vi))
  unfoldable pub carry_over : Machine → Machine → Machine
  carry_over s next = with_state next (resume (navigate next) (with_tables next.state.shared.tables s.state.shared))

  -- change: the new tables as at open and then the new bindings in their order, which are refused by the first number met
  unfoldable pub change_call : Tables → List Binding → Machine → Result Machine
  change_call t xs s = do
    s₁ ← open_with t
    next ← bind_all xs s₁
    accept (carry_over s next)

  -- mode: the entered one
  unfoldable pub mode_call : Machine → ℕ
  mode_call s = s.state.shared.mode

  -- ---- what a call leaves and answers

  -- an accepted call leaves what it came to, and a refused one leaves the machine as it was
  unfoldable pub settled : Machine → Result Machine → Machine × Answer
  settled s (accept s₁) = (s₁, Accepted)
  settled s (refuse n) = (s, Refused n)

  unfoldable pub pressed : Machine → ℕ → Result (State 𝓚.Place) → Machine × Answer
  pressed s rounds (accept m) = (with_state s m, Pressed rounds)
  pressed s rounds (refuse n) = (s, PressRefused n rounds)

  -- pop never refuses: an empty queue gives "nothing"
  unfoldable pub popped : Machine → List Pair → Machine × Answer
  popped s [] = (s, Nothing)
  popped s (p ∷ ps) = (with_shared s (with_queue ps s.state.shared), Popped p)

  unfoldable pub call : Machine → Call → Machine × Answer
  call s (Open t) = settled s (open_with t)
  call s (Map mode path st) = settled s (map_call mode path st s)
  call s (Prefix mode path st) = settled s (prefix_call mode path st s)
  call s (Press i) = let r = key_call i s in pressed s r.rounds r.result
  call s Pop = popped s s.state.shared.queue
  call s (Repeats q over) = settled s (repeat_call q over s)
  call s Reset = settled s (reset_call s)
  call s (Change t xs) = settled s (change_call t xs s)

  -- ---- a list of calls, each on the machine that the one before left

  -- after each call its answer and all that is observable: waiting pairs, entered mode, context, trail, all eight sequences
  unfoldable pub history : Machine → List Call → List (Answer × Shared)
  history s [] = []
  history s (c ∷ cs) = let r = call s c in (r.1, r.0.state.shared) ∷ history r.0 cs

  -- the machine that a list of calls leaves
  unfoldable pub leaves : Machine → List Call → Machine
  leaves s [] = s
  leaves s (c ∷ cs) = leaves (call s c).0 cs

-- ---- the graph machine: one turn of the loop in `InputMachine::input`

-- a successor: a step, flagged or not, an empty node, a root
unfoldable pub arrive : Graph → ℕ → Event → NodeAction → Turn ℕ
arrive g n ev Empty = record { event = some ev; place = n; result = NeedMore }
arrive g n ev Root = record { event = some ev; place = n; result = Consumed }
arrive g n ev (Holds s) = record {
  event = some ev;
  place = n;
  result = if s.flag then (if has_edges g n then NeedMore else Unmapped) else RunStep s;
}

-- a fallthrough: to an empty node, a root, or a step, whose flag is not looked at
unfoldable pub land : ℕ → NodeAction → Turn ℕ
land n Empty = record { event = none; place = n; result = Again }
land n Root = record { event = none; place = n; result = ClearTrail }
land n (Holds s) = record { event = none; place = n; result = RetryAfter s }

unfoldable pub turn_by : Graph → ℕ → Follow → Turn ℕ
turn_by g n (Successor ev to) = arrive g to ev (get_node g to).action
turn_by g n (FallsTo to) = land to (get_node g to).action
turn_by g n NoSuccessor = record { event = none; place = n; result = Unmapped }

unfoldable pub graph_navigator : Graph → Navigator ℕ
graph_navigator g = record {
  turn = λ cs n k. turn_by g n (follow_edge cs g n k);
  root = λ m. m;
  mode_of = λ n. (get_node g n).mode;
}

abbrev pub graph_kind : Kind
graph_kind = record { Bindings = Graph; Place = ℕ; none_yet = fresh_graph; map_in = add_mapping; prefix_in = add_prefix; navigator = graph_navigator }

-- ---- find (document 02, request (ii))

-- is the action in the list of the node's step, flagged or not? One that the step gives without having it, as action 0 for a next
-- mode alone, is not
unfoldable pub does : ℕ → NodeAction → Bool
does a Empty = false
does a Root = false
does a (Holds s) = some_of (eqb a) s.actions

unfoldable pub holds_action : ℕ → ℕ → Node → Bool
holds_action mode a n = eqb n.mode mode && does a n.action

-- the number of the first node that passes the test, where the nodes are numbered from n on
unfoldable pub first_node : (Node → Bool) → ℕ → List Node → Option ℕ
first_node p n [] = none
first_node p n (x ∷ xs) = if p x then some n else first_node p (suc n) xs

-- find: 1 mode over 15; else the lowest-numbered of that mode's nodes with the action in their step, or "none" where no node has it
unfoldable pub find : Graph → ℕ → ℕ → Result (Option ℕ)
find g mode a = unless (is_mode mode) 1 (accept (first_node (holds_action mode a) 0 g.nodes))

-- ---- the node hint (document 02, request (v))

-- how many nodes accepted calls made since fresh: all but the roots, since a refused call leaves the graph, and only an open and
-- a change, which begin with a fresh one, take any away
unfoldable pub nodes_made : Graph → ℕ
nodes_made g = length g.nodes - mode_count

-- node hint: exactly 1,024 less the nodes made
unfoldable pub hint : Graph → ℕ
hint g = most_nodes - nodes_made g

-- ---- everything above, to be opened by one name where a run is computed
unfoldable pub open-Calls : Unit {0}
unfolding fresh open_with keep map_call prefix_call bind bind_all key_call repeat_call reset_call carry_over change_call mode_call settled pressed popped call history leaves arrive land turn_by graph_navigator does holds_action first_node find nodes_made hint
open-Calls = tt
