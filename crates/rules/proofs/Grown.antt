-- A graph that grows: adding refuses with 2, 3 or 4 alone, and does three things to a graph: a node is made behind the others, a
-- node gets a step, and an edge is stored. So whatever these keep is kept by every map and prefix call: that nodes are never fewer
-- and at most 16 + 1,024, and that of one start and one event there is at most one edge.
use Rattle.std.specs.Prelude.{if◌then◌else◌}
use Prim.Native.Nat.{ℕ, zero, suc, ◌+◌, ◌≤◌, ◌<◌, max}
use native.Mathlib.Omega.{arith}
use mathlib.Core.Path.{◌≡◌, refl, sym, ap, ap₂, ◌∙◌}
use mathlib.Core.Bool.{Bool, true, false, ◌&&◌, true≢false}
use mathlib.Core.Option.{Option, none, some}
use mathlib.Core.List.{List, [], ◌∷◌, ◌++◌}
use lib.Dec.{T, ltb, ltb→lt, eqb}
use lib.ListN.{length, get_or, set, length-append, length-set}
use Rattle.rules.specs.Basics.{is_there}
use Rattle.rules.specs.Values.{mode_count, most_nodes, most_edges, Event, Fallthrough, same_event, Repeat, Once, Min, Max, Part, Step}
use Rattle.rules.specs.Graph.{NodeAction, Empty, Root, Holds, Node, Edge, Graph, is_edge, end_in, get_edge, get_node, add_node, replace_in, put_edge, add_edge, settle, upsert_at, upsert_node}
use Rattle.rules.specs.Graph.{Cursor, cursor, edge_to, edge_between, node_for, add_simple_step, add_simples, add_optionals, add_min, add_max, add_repeat, go_on, add_intermediate}
use Rattle.rules.specs.Graph.{map_last, map_fall, map_path, add_mapping, action_of, prefix_last, prefix_path, add_prefix}
use Rattle.rules.proofs.Tests.{by_cases, void, and_false, eqb_is, event_is}
use Rattle.rules.proofs.Results.{Always, accepts, always_bind, unless_so, always_unless, always_if}
use Rattle.rules.proofs.Edges.{edge, stored, put, is_edge_lem, edge_is, end_other, replaced, appended}

-- ---- what a node made, a step given and an edge stored keep, every call keeps

-- G is kept by all three
pub record Grows (G : Graph → Type 0) : Type 0 where
  pub made : (g : Graph) (x : Node) → length g.nodes < mode_count + most_nodes → G g → G (record { nodes = g.nodes ++ (x ∷ []); edges = g.edges })
  pub given : (g : Graph) (n : ℕ) (x : Node) → G g → G (record { nodes = set g.nodes n x; edges = g.edges })
  pub joined : (g : Graph) (n : ℕ) (ev : Event) (to : ℕ) → G g → G (put g g.nodes n ev to)

-- of whatever graph
pub any_grows : Grows (λ g. Unit {0})
any_grows = record { made = λ g x l h. tt; given = λ g n x h. tt; joined = λ g n ev to h. tt }

module _ (G : Graph → Type 0) where
  abbrev OfNew : Graph × ℕ → Type 0
  OfNew r = G r.0

  abbrev OfPath : Cursor → Type 0
  OfPath c = G c.graph

  abbrev OfNode : Cursor × ℕ → Type 0
  OfNode r = G r.0.graph

  module _ {N : ℕ → Bool} (two : T (N 2)) (three : T (N 3)) (four : T (N 4)) (grows : Grows G) where
    node : (mode : ℕ) (x : NodeAction) (g : Graph) → G g → Always N OfNew (add_node mode x g)
    unfolding add_node
    node mode x g h =
        let most = mode_count + most_nodes in
        unless_so (ltb (length g.nodes) most) 2 two (λ so. accepts (grows.made g _ (ltb→lt (length g.nodes) most so) h))

    add : (from to : ℕ) (ev : Event) (g : Graph) → G g → Always N G (add_edge from to ev g)
    unfolding add_edge put_edge get_edge
    add from to ev g h = go (end_in g.edges from ev) refl
      where
        now : G (put g g.nodes from ev to)
        now = grows.joined g from ev to h

        go : (o : Option ℕ) → end_in g.edges from ev ≡ o → Always N G (put_edge (edge from ev to) g o)
        go (some old) e =
            let k : G (record { nodes = g.nodes; edges = replace_in g.edges (edge from ev to) }) = rw (replaced g.edges from ev to (ap is_there e)) now in
            accepts k
        go none e =
            let k : G (record { nodes = g.nodes; edges = g.edges ++ (edge from ev to ∷ []) }) = rw (appended g.edges from ev to e) now in
            always_unless (ltb (length g.edges) most_edges) 3 three (accepts k)

    settles : (mode n : ℕ) (x : NodeAction) (g : Graph) → G g → Always N OfNew (settle mode n x g)
    unfolding settle
    settles mode n Empty g h = accepts h
    settles mode n Root g h = accepts h
    settles mode n (Holds s) g h = always_unless (eqb (get_node g n).mode mode) 4 four (accepts (grows.given g n _ h))

    upserts : (mode : ℕ) (x : NodeAction) (g : Graph) (o : Option ℕ) → G g → Always N OfNew (upsert_at mode x g o)
    unfolding upsert_at
    upserts mode x g (some n) h = settles mode n x g h
    upserts mode x g none h = node mode x g h

    to_edge : (to : ℕ) (ev : Event) (c : Cursor) → OfPath c → Always N OfPath (edge_to to ev c)
    unfolding edge_to
    to_edge to ev c h = always_bind (add c.prev to ev c.graph h) (λ g k. accepts k)

    between : (from to : ℕ) (ev : Event) (c : Cursor) → OfPath c → Always N OfPath (edge_between from to ev c)
    unfolding edge_between
    between from to ev c h = always_bind (add from to ev c.graph h) (λ g k. accepts k)

    for_node : (mode : ℕ) (x : NodeAction) (c : Cursor) → OfPath c → Always N OfNode (node_for mode x c)
    unfolding node_for
    for_node mode x c h = always_bind (node mode x c.graph h) (λ r k. accepts k)

    simple : (mode : ℕ) (ev : Event) (x : NodeAction) (c : Cursor) → OfPath c → Always N OfPath (add_simple_step mode ev x c)
    unfolding add_simple_step upsert_node
    simple mode ev x c h =
        always_bind (upserts mode x c.graph (get_edge c.graph c.prev ev) h)
        (λ r k. always_bind (always_if {X = G} c.fallthrough (add c.prev r.1 Fallthrough r.0 k) (accepts k))
        (λ g l. always_bind (add c.prev r.1 ev g l) (λ g₁ m. accepts m)))

    simples : (n mode : ℕ) (ev : Event) (c : Cursor) → OfPath c → Always N OfPath (add_simples n mode ev c)
    unfolding add_simples
    simples zero mode ev c h = accepts h
    simples (suc n) mode ev c h = always_bind (simple mode ev Empty c h) (λ c₁ k. simples n mode ev c₁ k)

    optionals : (n mode : ℕ) (ev : Event) (end : ℕ) (c : Cursor) → OfPath c → Always N OfPath (add_optionals n mode ev end c)
    unfolding add_optionals
    optionals zero mode ev end c h = accepts h
    optionals (suc n) mode ev end c h =
        always_bind (simple mode ev Empty c h) (λ c₁ k. always_bind (to_edge end Fallthrough c₁ k) (λ c₂ l. optionals n mode ev end c₂ l))

    at_least : (n mode : ℕ) (ev : Event) (end : ℕ) (c : Cursor) → OfPath c → Always N OfPath (add_min n mode ev end c)
    unfolding add_min
    at_least zero mode ev end c h = to_edge end Fallthrough c h
    at_least (suc n) mode ev end c h = simples n mode ev c h

    at_most : (n mode : ℕ) (ev : Event) (end : ℕ) (c : Cursor) → OfPath c → Always N OfPath (add_max n mode ev end c)
    unfolding add_max
    at_most zero mode ev end c h = accepts h
    at_most (suc n) mode ev end c h = always_bind (optionals n mode ev end c h) (λ c₁ k. to_edge end ev c₁ k)

    repeats : (mode : ℕ) (x : Repeat) (ev : Event) (c : Cursor) → OfPath c → Always N OfPath (add_repeat mode x ev c)
    unfolding add_repeat
    repeats mode Once ev c h = simple mode ev Empty c h
    repeats mode (Min zero) ev c h =
        always_bind (for_node mode Empty c h)
        (λ m k. always_bind (between m.1 m.1 ev m.0 k) (λ c₁ l. always_bind (to_edge m.1 Fallthrough c₁ l) (λ c₂ n. accepts n)))
    repeats mode (Min (suc n)) ev c h =
        always_bind (for_node mode Empty c h)
        (λ m k. always_bind (between m.1 m.1 ev m.0 k)
        (λ c₁ l. always_bind (simples n mode ev c₁ l) (λ c₂ o. always_bind (to_edge m.1 ev c₂ o) (λ c₃ p. accepts p))))
    repeats mode (Max zero) ev c h = accepts h
    repeats mode (Max (suc n)) ev c h =
        always_bind (for_node mode Empty c h)
        (λ e k. always_bind (to_edge e.1 Fallthrough e.0 k) (λ c₁ l. always_bind (at_most (suc n) mode ev e.1 c₁ l) (λ c₂ o. accepts o)))

    goes_on_lem : (mode : ℕ) (p : Part) (c : Cursor) (o : Option ℕ) → OfPath c → Always N OfPath (go_on mode p c o)
    unfolding go_on
    goes_on_lem mode p c (some n) h = accepts h
    goes_on_lem mode p c none h = repeats mode p.repeat p.event c h

    intermediate : (mode : ℕ) (p : Part) (c : Cursor) → OfPath c → Always N OfPath (add_intermediate mode p c)
    unfolding add_intermediate
    intermediate mode p c h = goes_on_lem mode p c (get_edge c.graph c.prev p.event) h

    -- ---- map

    map_end : (mode : ℕ) (x : Repeat) (ev : Event) (s : Step) (c : Cursor) → OfPath c → Always N OfPath (map_last mode x ev s c)
    unfolding map_last
    map_end mode Once ev s c h = simple mode ev (Holds s) c h
    map_end mode (Min n) ev s c h =
        always_bind (for_node mode (Holds s) c h)
        (λ e k. always_bind (for_node mode Empty e.0 k)
        (λ m l. always_bind (between m.1 e.1 Fallthrough m.0 l)
        (λ c₁ o. always_bind (between m.1 m.1 ev c₁ o)
        (λ c₂ p. always_bind (at_least n mode ev e.1 c₂ p) (λ c₃ q. always_bind (to_edge m.1 ev c₃ q) (λ c₄ r. accepts r))))))
    map_end mode (Max n) ev s c h =
        always_bind (for_node mode (Holds s) c h)
        (λ e k. always_bind (to_edge e.1 Fallthrough e.0 k) (λ c₁ l. always_bind (at_most n mode ev e.1 c₁ l) (λ c₂ o. accepts o)))

    map_fall_lem : (o : Option ℕ) (c : Cursor) → OfPath c → Always N OfPath (map_fall o c)
    unfolding map_fall
    map_fall_lem none c h = accepts h
    map_fall_lem (some m) c h = to_edge m Fallthrough c h

    map_path_lem : (mode : ℕ) (ps : List Part) (s : Step) (c : Cursor) → OfPath c → Always N OfPath (map_path mode ps s c)
    unfolding map_path
    map_path_lem mode [] s c h = accepts h
    map_path_lem mode (p ∷ []) s c h = always_bind (map_end mode p.repeat p.event s c h) (λ c₁ k. map_fall_lem s.fallthrough c₁ k)
    map_path_lem mode (p ∷ q ∷ ps) s c h = always_bind (intermediate mode p c h) (λ c₁ k. map_path_lem mode (q ∷ ps) s c₁ k)

    pub map_grows : (mode : ℕ) (ps : List Part) (s : Step) (g : Graph) → G g → Always N G (add_mapping mode ps s g)
    unfolding add_mapping
    map_grows mode ps s g h = always_bind (map_path_lem mode ps s (cursor g mode false) h) (λ c k. accepts k)

    -- ---- prefix

    prefix_end : (mode : ℕ) (single : Bool) (x : Repeat) (ev : Event) (os : Option Step) (c : Cursor) → OfPath c → Always N OfPath (prefix_last mode single x ev os c)
    unfolding prefix_last
    prefix_end mode single Once ev none c h = to_edge mode ev c h
    prefix_end mode single Once ev (some s) c h =
        always_bind (for_node mode (Holds s) c h)
        (λ n k. always_bind (to_edge n.1 ev n.0 k) (λ c₁ l. between n.1 mode Fallthrough c₁ l))
    prefix_end mode single (Min n) ev os c h =
        always_bind (for_node mode (action_of os) c h)
        (λ e k. always_bind (for_node mode Empty e.0 k)
        (λ m l. always_bind (between m.1 m.1 ev m.0 l)
        (λ c₁ o. always_bind (between m.1 e.1 Fallthrough c₁ o)
        (λ c₂ p. always_bind (between e.1 mode Fallthrough c₂ p)
        (λ c₃ q. always_bind (at_least (if single then max 1 n else n) mode ev e.1 c₃ q) (λ c₄ r. to_edge m.1 ev c₄ r))))))
    prefix_end mode single (Max n) ev os c h =
        always_if (single && eqb n 0) (accepts h)
        (always_bind (for_node mode (action_of os) c h)
        (λ e k. always_bind (to_edge e.1 Fallthrough e.0 k)
        (λ c₁ l. always_bind (between e.1 mode Fallthrough c₁ l) (λ c₂ o. at_most n mode ev e.1 c₂ o))))

    prefix_path_lem : (mode : ℕ) (single : Bool) (ps : List Part) (os : Option Step) (c : Cursor) → OfPath c → Always N OfPath (prefix_path mode single ps os c)
    unfolding prefix_path
    prefix_path_lem mode single [] os c h = accepts h
    prefix_path_lem mode single (p ∷ []) os c h = prefix_end mode single p.repeat p.event os c h
    prefix_path_lem mode single (p ∷ q ∷ ps) os c h = always_bind (intermediate mode p c h) (λ c₁ k. prefix_path_lem mode false (q ∷ ps) os c₁ k)

    pub prefix_grows : (mode : ℕ) (ps : List Part) (os : Option Step) (g : Graph) → G g → Always N G (add_prefix mode ps os g)
    unfolding add_prefix
    prefix_grows mode ps os g h = always_bind (prefix_path_lem mode true ps os (cursor g mode false) h) (λ c k. accepts k)

-- ---- at least so many nodes as there were, and at most 16 + 1,024

pub record NodesBetween (least : ℕ) (g : Graph) : Type 0 where
  pub grown : least ≤ length g.nodes
  pub room : length g.nodes ≤ mode_count + most_nodes

pub nodes_grow : (least : ℕ) → Grows (NodesBetween least)
nodes_grow least = record {
  made = λ g x l h. let n = length-append g.nodes (x ∷ []) in record { grown = omega (arith, n, h.grown); room = omega (arith, n, l) };
  given = λ g n x h. let l = length-set g.nodes n x in record { grown = omega (arith, l, h.grown); room = omega (arith, l, h.room) };
  joined = λ g n ev to h. record { grown = h.grown; room = h.room };
}

-- ---- of one start and one event at most one edge

-- no edge behind another has its start and event
abbrev pub Single : List Edge → Type 0
Single [] = Unit {0}
Single (x ∷ xs) = (end_in xs x.from x.event ≡ none) × Single xs

stored_single : (xs : List Edge) (n : ℕ) (ev : Event) (to : ℕ) → Single xs → Single (stored xs (edge n ev to))
unfolding end_in is_edge
stored_single [] n ev to h = (refl, tt)
stored_single (x ∷ xs) n ev to h =
    by_cases (is_edge n ev x)
    (λ k. rw k (ap₂ (λ u v. end_in xs u v) (sym (edge_is n ev x k).0) (sym (edge_is n ev x k).1) ∙ h.0, h.1))
    (λ k. rw k (end_other xs n ev to x.from x.event (and_false _ _ (λ p q. true≢false (sym (met p q) ∙ k))) ∙ h.0, stored_single xs n ev to h.1))
  where
    met : eqb n x.from ≡ true → same_event ev x.event ≡ true → is_edge n ev x ≡ true
    met p q = ap₂ (λ u v. is_edge u v x) (eqb_is n x.from p) (event_is ev x.event q) ∙ is_edge_lem x.from x.event x.to

abbrev pub OneEdge : Graph → Type 0
OneEdge g = Single g.edges

pub one_edge_grows : Grows OneEdge
one_edge_grows = record { made = λ g x l h. h; given = λ g n x h. h; joined = λ g n ev to h. stored_single g.edges n ev to h }

-- by places: two edges of one start and one event stand at one place
module _ (d : Edge) where
  not_behind : (xs : List Edge) (n : ℕ) (ev : Event) → end_in xs n ev ≡ none → (j : ℕ) → j < length xs → n ≡ (get_or xs j d).from → ev ≡ (get_or xs j d).event → ⊥
  unfolding end_in is_edge
  not_behind [] n ev h j b s t = omega arith
  not_behind (x ∷ xs) n ev h zero b s t =
      let k : some x.to ≡ none = rw (s, t, is_edge_lem x.from x.event x.to) at h in
      void (sym k)
  not_behind (x ∷ xs) n ev h (suc j) b s t =
      by_cases (is_edge n ev x)
      (λ k. let l : some x.to ≡ none = rw k at h in void (sym l))
      (λ k. not_behind xs n ev (rw k at h) j (omega arith) s t)

  pub single_place : (xs : List Edge) → Single xs → (i j : ℕ) → i < length xs → j < length xs
      → (get_or xs i d).from ≡ (get_or xs j d).from → (get_or xs i d).event ≡ (get_or xs j d).event → i ≡ j
  single_place [] h i j b c s t = omega arith
  single_place (x ∷ xs) h zero zero b c s t = refl
  single_place (x ∷ xs) h zero (suc j) b c s t = absurd (not_behind xs x.from x.event h.0 j (omega arith) s t)
  single_place (x ∷ xs) h (suc i) zero b c s t = absurd (not_behind xs x.from x.event h.0 i (omega arith) (sym s) (sym t))
  single_place (x ∷ xs) h (suc i) (suc j) b c s t = ap suc (single_place xs h.1 i j (omega arith) (omega arith) s t)
