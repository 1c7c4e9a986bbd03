-- Document 01, "Graph": nodes and edges, following, and adding, by the Rust's functions of `Graph` and `InputMachine`
-- under their names and in their order of work, so that the refusals 2, 3 and 4 come as the Rust meets them.
use Rattle.std.specs.Prelude.{ℕ, zero, suc, ◌+◌, max, Bool, true, false, ◌&&◌, List, [], ◌∷◌, ◌++◌, ltb, eqb, length, get_or, set, if◌then◌else◌}
use Rattle.std.proofs.Math.Option.{Option, none, some}
use Rattle.rules.specs.Basics.{Result, accept, refuse, ◌>>=◌, unless, some_of}
use Rattle.rules.specs.Values.{mode_count, most_nodes, most_edges, Event, Key, Class, Any, Fallthrough, same_event, Repeat, Once, Min, Max, Part, Step}
use Rattle.rules.specs.Tables.{ClassEntry, memberships}

-- ---- nodes and edges

pub data NodeAction : Type 0 where
  Empty : NodeAction
  Root : NodeAction
  Holds : Step → NodeAction

pub record Node : Type 0 where
  pub mode : ℕ
  pub action : NodeAction

pub record Edge : Type 0 where
  pub from : ℕ
  pub event : Event
  pub to : ℕ

-- Node n is element n. Of one start and one event there is at most one edge
pub record Graph : Type 0 where
  pub nodes : List Node
  pub edges : List Edge

-- the roots of n modes from m on
unfoldable pub roots : ℕ → ℕ → List Node
roots zero m = []
roots (suc n) m = record { mode = m; action = Root } ∷ roots n (suc m)

-- the mode roots, nodes 0–15, are there from the start
unfoldable pub fresh_graph : Graph
fresh_graph = record { nodes = roots mode_count 0; edges = [] }

unfoldable pub no_node : Node
no_node = record { mode = 0; action = Empty }

unfoldable pub get_node : Graph → ℕ → Node
get_node g n = get_or g.nodes n no_node

unfoldable pub is_edge : ℕ → Event → Edge → Bool
is_edge n ev e = eqb e.from n && same_event e.event ev

unfoldable pub end_in : List Edge → ℕ → Event → Option ℕ
end_in [] n ev = none
end_in (e ∷ es) n ev = if is_edge n ev e then some e.to else end_in es n ev

-- the end of n's edge for the event
unfoldable pub get_edge : Graph → ℕ → Event → Option ℕ
get_edge g n ev = end_in g.edges n ev

unfoldable pub has_edges : Graph → ℕ → Bool
has_edges g n = some_of (λ e. eqb e.from n) g.edges

-- at most 1,024 nodes beside the roots: 2 no node left
unfoldable pub add_node : ℕ → NodeAction → Graph → Result (Graph × ℕ)
add_node mode action g =
    let n = length g.nodes in
    unless (ltb n (mode_count + most_nodes)) 2
    (accept (record { nodes = g.nodes ++ (record { mode = mode; action = action } ∷ []); edges = g.edges }, n))

unfoldable pub replace_in : List Edge → Edge → List Edge
replace_in [] new = []
replace_in (e ∷ es) new = if is_edge new.from new.event e then new ∷ es else e ∷ replace_in es new

-- an edge of that start and event is replaced; else at most 2,048 edges: 3 no edge left
unfoldable pub put_edge : Edge → Graph → Option ℕ → Result Graph
put_edge new g (some old) = accept (record { nodes = g.nodes; edges = replace_in g.edges new })
put_edge new g none =
    unless (ltb (length g.edges) most_edges) 3 (accept (record { nodes = g.nodes; edges = g.edges ++ (new ∷ []) }))

unfoldable pub add_edge : ℕ → ℕ → Event → Graph → Result Graph
add_edge from to ev g = put_edge (record { from = from; event = ev; to = to }) g (get_edge g from ev)

-- the node at the end of an edge that is there: if the action is a step, it gets that and is held to the mode (4)
unfoldable pub settle : ℕ → ℕ → NodeAction → Graph → Result (Graph × ℕ)
settle mode n Empty g = accept (g, n)
settle mode n Root g = accept (g, n)
settle mode n (Holds s) g =
    unless (eqb (get_node g n).mode mode) 4
    (accept (record { nodes = set g.nodes n (record { mode = mode; action = Holds s }); edges = g.edges }, n))

unfoldable pub upsert_at : ℕ → NodeAction → Graph → Option ℕ → Result (Graph × ℕ)
upsert_at mode action g (some n) = settle mode n action g
upsert_at mode action g none = add_node mode action g

unfoldable pub upsert_node : ℕ → ℕ → Event → NodeAction → Graph → Result (Graph × ℕ)
upsert_node mode prev ev action g = upsert_at mode action g (get_edge g prev ev)

-- ---- following

pub data Follow : Type 0 where
  Successor : Event → ℕ → Follow
  FallsTo : ℕ → Follow
  NoSuccessor : Follow

-- by the event, if it has an edge, and else as told
unfoldable pub or_else_by : Event → Option ℕ → Follow → Follow
or_else_by ev (some to) rest = Successor ev to
or_else_by ev none rest = rest

unfoldable pub lastly : Option ℕ → Follow
lastly (some to) = FallsTo to
lastly none = NoSuccessor

-- the first of the events with an edge, and else the Fallthrough edge; `end` gives the end of an event's edge
unfoldable pub follow_first : (end : Event → Option ℕ) → List Event → Follow
follow_first end [] = lastly (end Fallthrough)
follow_first end (ev ∷ evs) = or_else_by ev (end ev) (follow_first end evs)

unfoldable pub class_events : List ℕ → List Event
class_events [] = Any ∷ []
class_events (c ∷ cs) = Class c ∷ class_events cs

-- the events that a key matches, in their order: Key, its Classes, Any
unfoldable pub events_of : List ClassEntry → ℕ → List Event
events_of cs k = Key k ∷ class_events (memberships cs k)

unfoldable pub follow_edge : List ClassEntry → Graph → ℕ → ℕ → Follow
follow_edge cs g n k = follow_first (get_edge g n) (events_of cs k)

-- ---- a path on its way: the graph, the node come to, and whether a Fallthrough edge is owed from there

pub record Cursor : Type 0 where
  pub graph : Graph
  pub prev : ℕ
  pub fallthrough : Bool

abbrev pub cursor : Graph → ℕ → Bool → Cursor
cursor g n f = record { graph = g; prev = n; fallthrough = f }

-- `add_edge` from the node come to
unfoldable pub edge_to : ℕ → Event → Cursor → Result Cursor
edge_to to ev c = do
  g ← add_edge c.prev to ev c.graph
  accept (cursor g c.prev c.fallthrough)

unfoldable pub edge_between : ℕ → ℕ → Event → Cursor → Result Cursor
edge_between from to ev c = do
  g ← add_edge from to ev c.graph
  accept (cursor g c.prev c.fallthrough)

unfoldable pub node_for : ℕ → NodeAction → Cursor → Result (Cursor × ℕ)
node_for mode action c = do
  r ← add_node mode action c.graph
  accept (cursor r.0 c.prev c.fallthrough, r.1)

-- Every caller goes on from the node that this returns in the Rust, so the cursor moves there
unfoldable pub add_simple_step : ℕ → Event → NodeAction → Cursor → Result Cursor
add_simple_step mode ev action c = do
  r ← upsert_node mode c.prev ev action c.graph
  g ← if c.fallthrough then add_edge c.prev r.1 Fallthrough r.0 else accept r.0
  g' ← add_edge c.prev r.1 ev g
  accept (cursor g' r.1 false)

-- n further times the event
unfoldable pub add_simples : ℕ → ℕ → Event → Cursor → Result Cursor
add_simples zero mode ev c = accept c
add_simples (suc n) mode ev c = do
  c₁ ← add_simple_step mode ev Empty c
  add_simples n mode ev c₁

-- n further times the event, each of which may be the last
unfoldable pub add_optionals : ℕ → ℕ → Event → ℕ → Cursor → Result Cursor
add_optionals zero mode ev end c = accept c
add_optionals (suc n) mode ev end c = do
  c₁ ← add_simple_step mode ev Empty c
  c₂ ← edge_to end Fallthrough c₁
  add_optionals n mode ev end c₂

-- at least n times: nothing to go by at 0, and else all but the last of the n
unfoldable pub add_min : ℕ → ℕ → Event → ℕ → Cursor → Result Cursor
add_min zero mode ev end c = edge_to end Fallthrough c
add_min (suc n) mode ev end c = add_simples n mode ev c

-- at most n times, each of which leads to the end
unfoldable pub add_max : ℕ → ℕ → Event → ℕ → Cursor → Result Cursor
add_max zero mode ev end c = accept c
add_max (suc n) mode ev end c = do
  c₁ ← add_optionals n mode ev end c
  edge_to end ev c₁

-- a new part of a path that goes on: Once, Min, Max
unfoldable pub add_repeat : ℕ → Repeat → Event → Cursor → Result Cursor
add_repeat mode Once ev c = add_simple_step mode ev Empty c
add_repeat mode (Min zero) ev c = do
  m ← node_for mode Empty c
  c₁ ← edge_between m.1 m.1 ev m.0
  c₂ ← edge_to m.1 Fallthrough c₁
  accept (cursor c₂.graph m.1 true)
add_repeat mode (Min (suc n)) ev c = do
  m ← node_for mode Empty c
  c₁ ← edge_between m.1 m.1 ev m.0
  c₂ ← add_simples n mode ev c₁
  c₃ ← edge_to m.1 ev c₂
  accept (cursor c₃.graph m.1 true)
add_repeat mode (Max zero) ev c = accept c
add_repeat mode (Max (suc n)) ev c = do
  e ← node_for mode Empty c
  c₁ ← edge_to e.1 Fallthrough e.0
  c₂ ← add_max (suc n) mode ev e.1 c₁
  accept (cursor c₂.graph e.1 c₂.fallthrough)

-- an edge that exists is followed, regardless of the part's repeat
unfoldable pub go_on : ℕ → Part → Cursor → Option ℕ → Result Cursor
go_on mode p c (some n) = accept (cursor c.graph n c.fallthrough)
go_on mode p c none = add_repeat mode p.repeat p.event c

unfoldable pub add_intermediate : ℕ → Part → Cursor → Result Cursor
add_intermediate mode p c = go_on mode p c (get_edge c.graph c.prev p.event)

-- ---- `add_mapping`

unfoldable pub map_last : ℕ → Repeat → Event → Step → Cursor → Result Cursor
map_last mode Once ev s c = add_simple_step mode ev (Holds s) c
map_last mode (Min n) ev s c = do
  e ← node_for mode (Holds s) c
  m ← node_for mode Empty e.0
  c₁ ← edge_between m.1 e.1 Fallthrough m.0
  c₂ ← edge_between m.1 m.1 ev c₁
  c₃ ← add_min n mode ev e.1 c₂
  c₄ ← edge_to m.1 ev c₃
  accept (cursor c₄.graph e.1 c₄.fallthrough)
map_last mode (Max n) ev s c = do
  e ← node_for mode (Holds s) c
  c₁ ← edge_to e.1 Fallthrough e.0
  c₂ ← add_max n mode ev e.1 c₁
  accept (cursor c₂.graph e.1 c₂.fallthrough)

-- the Fallthrough edge of a step that names a mode
unfoldable pub map_fall : Option ℕ → Cursor → Result Cursor
map_fall none c = accept c
map_fall (some m) c = edge_to m Fallthrough c

-- an empty path changes nothing
unfoldable pub map_path : ℕ → List Part → Step → Cursor → Result Cursor
map_path mode [] s c = accept c
map_path mode (p ∷ []) s c = do
  c₁ ← map_last mode p.repeat p.event s c
  map_fall s.fallthrough c₁
map_path mode (p ∷ q ∷ ps) s c = do
  c₁ ← add_intermediate mode p c
  map_path mode (q ∷ ps) s c₁

unfoldable pub add_mapping : ℕ → List Part → Step → Graph → Result Graph
add_mapping mode ps s g = do
  c ← map_path mode ps s (cursor g mode false)
  accept c.graph

-- ---- `add_prefix`

unfoldable pub action_of : Option Step → NodeAction
action_of none = Empty
action_of (some s) = Holds s

-- the last part leads back to the root; `single`: the path is this part alone
unfoldable pub prefix_last : ℕ → Bool → Repeat → Event → Option Step → Cursor → Result Cursor
prefix_last mode single Once ev none c = edge_to mode ev c
prefix_last mode single Once ev (some s) c = do
  n ← node_for mode (Holds s) c
  c₁ ← edge_to n.1 ev n.0
  edge_between n.1 mode Fallthrough c₁
prefix_last mode single (Min n) ev os c = do
  e ← node_for mode (action_of os) c
  m ← node_for mode Empty e.0
  c₁ ← edge_between m.1 m.1 ev m.0
  c₂ ← edge_between m.1 e.1 Fallthrough c₁
  c₃ ← edge_between e.1 mode Fallthrough c₂
  c₄ ← add_min (if single then max 1 n else n) mode ev e.1 c₃
  edge_to m.1 ev c₄
prefix_last mode single (Max n) ev os c =
    if single && eqb n 0 then accept c else (do
      e ← node_for mode (action_of os) c
      c₁ ← edge_to e.1 Fallthrough e.0
      c₂ ← edge_between e.1 mode Fallthrough c₁
      add_max n mode ev e.1 c₂)

unfoldable pub prefix_path : ℕ → Bool → List Part → Option Step → Cursor → Result Cursor
prefix_path mode single [] os c = accept c
prefix_path mode single (p ∷ []) os c = prefix_last mode single p.repeat p.event os c
prefix_path mode single (p ∷ q ∷ ps) os c = do
  c₁ ← add_intermediate mode p c
  prefix_path mode false (q ∷ ps) os c₁

unfoldable pub add_prefix : ℕ → List Part → Option Step → Graph → Result Graph
add_prefix mode ps os g = do
  c ← prefix_path mode true ps os (cursor g mode false)
  accept c.graph

-- ---- everything above, to be opened by one name where a run is computed
unfoldable pub open-Graph : Unit {0}
unfolding roots fresh_graph no_node get_node is_edge end_in get_edge has_edges add_node replace_in put_edge add_edge settle upsert_at upsert_node or_else_by lastly follow_first class_events events_of follow_edge edge_to edge_between node_for add_simple_step add_simples add_optionals add_min add_max add_repeat go_on add_intermediate map_last map_fall map_path add_mapping action_of prefix_last prefix_path add_prefix
open-Graph = tt
