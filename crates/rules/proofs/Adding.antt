-- A map call on a graph and on the list of mappings that it represents: both are refused with 2, or the new graph represents
-- the new list. Each part of a plain path comes to one opening: where it is known the edge is followed, and where it is new a
-- node is made for it, so the graph runs out of nodes exactly where the openings, admitted one after another, pass 1,024.
use Prim.Native.Nat.{ℕ, zero, suc, ◌+◌, ◌<◌}
use native.Mathlib.Nat.{add-zero, not-suc-le-zero, le_of_suc-le-suc}
use native.Mathlib.Omega.{arith}
use mathlib.Core.Path.{◌≡◌, refl, sym, ap, subst, ◌∙◌, fun_ext}
use mathlib.Core.Bool.{Bool, true, false, ◌&&◌, ◌||◌}
use mathlib.Core.Option.{Option, none, some}
use mathlib.Core.List.{List, [], ◌∷◌, ◌++◌, map}
use lib.Dec.{T, leb, ltb}
use lib.ListN.{length, get_or}
use lib.Seq.{set-append_seam}
use Rattle.rules.specs.Basics.{Result, accept, refuse, ◌>>=◌, unless, every, present, is_there}
use Rattle.rules.specs.Values.{mode_count, most_nodes, most_edges, most_actions, is_mode, Event, Key, Class, Any, Fallthrough, same_event, Repeat, Once, Min, Max, Part, Step, path_valid, step_valid, map_valid, Maps}
use Rattle.rules.specs.Graph.{NodeAction, Empty, Root, Holds, no_node, Graph, roots, fresh_graph, get_node, end_in, get_edge, add_node, settle, upsert_at, upsert_node, Cursor, cursor, edge_to, add_simple_step, add_repeat, go_on, add_intermediate, map_last, map_fall, map_path, add_mapping}
use Rattle.rules.specs.Calls.{graph_kind}
use Rattle.rules.specs.ListReader.{Mapping, Place, place, same_place, is_among, note_all, openings, last_of, step_at, fall_at, further, mapping_of, map_list, list_kind, plain_part, plain_binding}
use Rattle.rules.proofs.Tests.{by_cases, T_and, both_ways, or_r, lt_true, true_lt, there_is, eqb_same, place_same}
use Rattle.rules.proofs.Simulation.{Both, both_accept, both_refuse, both_bind}
use Rattle.rules.proofs.Places.{along, along_further, chain, number, no_root, root_number_lem, root_is, among_number, not_among, count_le, note_keeps, admit_one, admit, admit_count, openings_snoc, changed, step_snoc, fall_snoc}
use Rattle.rules.proofs.Edges.{put, stored_again, add_edge_stores}
use Rattle.rules.proofs.Represents.{Turns, Represents, node_for, grown, acted, with_node_lem, with_step, with_fall, fall_room, SameBindings, SamePlace}
use Rattle.rules.proofs.Runs.{Grown}

-- ---- plain parts

abbrev is_plain : Part → Bool
is_plain p = plain_part p.repeat p.event

plain_part_lem : (r : Repeat) (e : Event) → T (plain_part r e) → (r ≡ Once) × Turns e
unfolding plain_part same_event
plain_part_lem Once (Key k) h = (refl, refl)
plain_part_lem Once (Class c) h = (refl, refl)
plain_part_lem Once Any h = (refl, refl)
plain_part_lem Once Fallthrough h = absurd h
plain_part_lem (Min n) e h = absurd h
plain_part_lem (Max n) e h = absurd h

-- ---- one part of a path

-- a path has come to the place q, and owes no Fallthrough edge
record Stands (c : Cursor) (ds : List Place) (a : Place → Option Step) (f : Place → Option ℕ) (q : Place) : Type 0 where
  graph : Represents c.graph ds a f
  node : number q ds ≡ some c.prev
  owes : c.fallthrough ≡ false

module _ {c : Cursor} {ds : List Place} {a : Place → Option Step} {f : Place → Option ℕ} {q : Place} (S : Stands c ds a f q) (p : Part) (h : T (is_plain p)) where
  pl : (p.repeat ≡ Once) × Turns p.event
  pl = plain_part_lem p.repeat p.event h

  abbrev g : Graph
  g = c.graph

  abbrev e : Event
  e = p.event

  abbrev next : Place
  next = further q e

  abbrev New : Type 0
  New = is_among next ds ≡ false

  abbrev Left : Type 0
  Left = ltb (length ds) most_nodes ≡ true

  -- an edge more has room
  edge_left : Left → ltb (length g.edges) most_edges ≡ true
  edge_left l = lt_true (length g.edges) most_edges (omega (arith, S.graph.room, count_le f ds, true_lt (length ds) most_nodes l))

  -- a node is left exactly if an opening is
  node_left : ltb (length g.nodes) (mode_count + most_nodes) ≡ ltb (length ds) most_nodes
  node_left =
      both_ways (ltb (length g.nodes) (mode_count + most_nodes)) (ltb (length ds) most_nodes)
      (λ h. lt_true (length ds) most_nodes (omega (arith, S.graph.size, true_lt (length g.nodes) (mode_count + most_nodes) h)))
      (λ h. lt_true (length g.nodes) (mode_count + most_nodes) (omega (arith, S.graph.size, true_lt (length ds) most_nodes h)))

  end_here : get_edge g c.prev e ≡ number next ds
  end_here = S.graph.ons q c.prev S.node e pl.1

  unknown : New → number next ds ≡ none
  unknown m = not_among next ds (no_root q.mode q.path e []) m

  -- the opening is known, or new, or new and one too many
  three_ways : {A : Type 0} {X : A → List Place → Type 0} (r : Result A) → ((j : ℕ) → number next ds ≡ some j → Both X r (accept ds))
      → (New → Left → Both X r (accept (next ∷ ds)))
      → (New → ltb (length ds) most_nodes ≡ false → Both X r (refuse 2)) → Both X r (admit_one next ds)
  three_ways r old new full =
      by_cases (is_among next ds)
      (λ m. let k = there_is (number next ds) (sym (among_number next ds (no_root q.mode q.path e [])) ∙ m) in rw m (old k.0 k.1))
      (λ m. by_cases (ltb (length ds) most_nodes) (λ l. rw (m, l) (new m l)) (λ l. rw (m, l) (full m l)))

  new_number : number next (next ∷ ds) ≡ some (length g.nodes)
  new_number = rw (place_same next) (ap some (sym S.graph.size))

  represents_new : New → Left → Represents (grown g q.mode e c.prev) (next ∷ ds) a f
  represents_new m l = with_node_lem S.graph q c.prev e S.node pl.1 (unknown m) (true_lt (length ds) most_nodes l)

  -- a new opening: a node for it, and the edge that leads there
  simple_new : New → Left → (x : NodeAction) → let ns = g.nodes ++ (record { mode = q.mode; action = x } ∷ []) in
      add_simple_step q.mode e x c ≡ accept (cursor (put g ns c.prev e (length g.nodes)) (length g.nodes) false)
  unfolding add_simple_step upsert_node upsert_at add_node
  simple_new m l x =
      let g₁ : Graph = record { nodes = g.nodes ++ (record { mode = q.mode; action = x } ∷ []); edges = g.edges } in
      let room : (is_there (get_edge g₁ c.prev e) || ltb (length g.edges) most_edges) ≡ true = or_r (is_there (get_edge g₁ c.prev e)) _ (edge_left l) in
      rw (end_here ∙ unknown m, node_left, l, S.owes, add_edge_stores c.prev (length g.nodes) e g₁ room)

  simple_full : New → ltb (length ds) most_nodes ≡ false → (x : NodeAction) → add_simple_step q.mode e x c ≡ refuse 2
  unfolding add_simple_step upsert_node upsert_at add_node
  simple_full m l x = rw (end_here ∙ unknown m, node_left, l)

  -- an opening that is known: its node gets the step, and the edge that leads there is stored again
  simple_old : (j : ℕ) → number next ds ≡ some j → (s : Step) → add_simple_step q.mode e (Holds s) c ≡ accept (cursor (acted g q.mode j s) j false)
  unfolding add_simple_step upsert_node upsert_at settle get_edge
  simple_old j n s =
      let k : get_edge g c.prev e ≡ some j = end_here ∙ n in
      let room : (is_there (get_edge (acted g q.mode j s) c.prev e) || ltb (length g.edges) most_edges) ≡ true = rw k in
      let me : (get_node g j).mode ≡ q.mode = ap (λ x. x.mode) (S.graph.node next j n) in
      rw (k, me, eqb_same q.mode, S.owes, add_edge_stores c.prev j e (acted g q.mode j s) room, stored_again g.edges c.prev e j k)

  between_same : Both (λ c' ds'. Stands c' ds' a f next) (add_intermediate q.mode p c) (admit_one next ds)
  unfolding add_intermediate go_on add_repeat
  between_same =
      three_ways (add_intermediate q.mode p c)
      (λ j n. rw (end_here ∙ n) (both_accept (record { graph = S.graph; node = n; owes = S.owes })))
      (λ m l. rw (end_here ∙ unknown m, pl.0, simple_new m l Empty) (both_accept (record { graph = represents_new m l; node = new_number; owes = refl })))
      (λ m l. rw (end_here ∙ unknown m, pl.0, simple_full m l Empty) (both_refuse 2 tt))

  last_same : (s : Step) → T (present is_mode s.next)
      → Both (λ c' ds'. Stands c' ds' (changed a next (some s)) f next) (map_last q.mode p.repeat e s c) (admit_one next ds)
  unfolding map_last
  last_same s fits = rw pl.0
      (three_ways (add_simple_step q.mode e (Holds s) c)
      (λ j n. rw (simple_old j n s) (both_accept (record { graph = with_step S.graph q e j n s fits; node = n; owes = refl })))
      (λ m l. rw (simple_new m l (Holds s), ← (set-append_seam g.nodes (record { mode = q.mode; action = Empty }) [] (record { mode = q.mode; action = Holds s })))
      (both_accept (record { graph = with_step (represents_new m l) q e (length g.nodes) new_number s fits; node = new_number; owes = refl })))
      (λ m l. rw (simple_full m l (Holds s)) (both_refuse 2 tt)))

-- the Fallthrough edge of the step
fall_same : {c : Cursor} {ds : List Place} {a : Place → Option Step} {f : Place → Option ℕ} (q : Place) (e : Event) → Stands c ds a f (further q e)
    → (o : Option ℕ) → T (present is_mode o) → Both (λ c₁ ds₁. Represents c₁.graph ds₁ a (changed f (further q e) o)) (map_fall o c) (accept ds)
unfolding map_fall edge_to present
fall_same {c} {ds} {a} q e S none fits =
    both_accept (subst (Represents c.graph ds a) (fun_ext (λ r. by_cases (same_place r (further q e)) (λ b. rw b) (λ b. rw b))) S.graph)
fall_same {c} q e S (some m) fits =
    rw (add_edge_stores c.prev m Fallthrough c.graph (fall_room S.graph q e c.prev S.node m fits))
    (both_accept (with_fall S.graph q e c.prev S.node m fits))

-- ---- the rest of a path

abbrev events : List Part → List Event
events ps = map (λ p. p.event) ps

-- the graph represents what was known, and now the step at the end of the path
abbrev Arrived : Step → (Place → Option Step) → (Place → Option ℕ) → Place → Cursor → List Place → Type 0
Arrived s a f q c ds = Represents c.graph ds (changed a q (some s)) (changed f q s.fallthrough)

path_same : (s : Step) → T (present is_mode s.next) → T (present is_mode s.fallthrough) → (ps : List Part) (p : Part) → T (is_plain p) → T (every is_plain ps)
    → {c : Cursor} {ds : List Place} {a : Place → Option Step} {f : Place → Option ℕ} (q : Place) → Stands c ds a f q
    → Both (Arrived s a f (along q (events (p ∷ ps)))) (map_path q.mode (p ∷ ps) s c) (admit (chain q (events (p ∷ ps))) ds)
unfolding map_path every
path_same s n l [] p h hs q S = both_bind (last_same S p h s n) (λ c₁ ds₁ S₁. fall_same q p.event S₁ s.fallthrough l)
path_same s n l (r ∷ ps) p h hs q S =
    let k = T_and (is_plain r) (every is_plain ps) hs in
    rw (← (along_further q p.event (events (r ∷ ps)))) (both_bind (between_same S p h) (λ c₁ ds₁ S₁. path_same s n l ps r k.0 k.1 (further q p.event) S₁))

-- ---- a map call

step_parts : (s : Step) → T (step_valid s) → T (present is_mode s.next) × T (present is_mode s.fallthrough)
unfolding step_valid
step_parts s v =
    let b = T_and (present is_mode s.next) _ (T_and (leb (length s.actions) most_actions) _ v).1 in
    (b.0, (T_and (present is_mode s.fallthrough) _ b.1).0)

-- the graph represents the mappings, of which these are the openings
abbrev Represented : List Mapping → Cursor → List Place → Type 0
Represented xs c ds = Represents c.graph ds (step_at xs) (fall_at xs)

pub map_same : (mode : ℕ) (ps : List Part) (s : Step) → T (plain_binding (Maps mode ps s)) → T (map_valid mode ps s) → (g : Graph) (xs : List Mapping) → SameBindings g xs
    → Both (Grown graph_kind list_kind SameBindings SamePlace g xs) (add_mapping mode ps s g) (map_list mode ps s xs)
unfolding plain_binding every map_valid add_mapping map_path map_list mapping_of
map_same mode [] s h v g xs H = both_accept (record { bindings = H; places = λ i q here. here })
map_same mode (p ∷ ps) s h v g xs H = go (leb (length (openings ys)) most_nodes) added
  where
    x : Mapping
    x = mapping_of mode (p ∷ ps) s

    ys : List Mapping
    ys = xs ++ (x ∷ [])

    added : Both (Represented ys) (map_path mode (p ∷ ps) s (cursor g mode false)) (unless (leb (length (openings ys)) most_nodes) 2 (accept (openings ys)))
    added =
        let parts = T_and (is_plain p) (every is_plain ps) h in
        let valid = T_and (is_mode mode) (path_valid (p ∷ ps) && step_valid s) v in
        let fits = step_parts s (T_and (path_valid (p ∷ ps)) (step_valid s) valid.1).1 in
        simp (Represented, openings_snoc xs x, step_snoc xs x, fall_snoc xs x, ← (admit_count (chain (place mode []) (events (p ∷ ps))) (openings xs) H.tree.small))
        (path_same s fits.0 fits.1 ps p parts.0 parts.1 (place mode []) (record { graph = H; node = H.tree.roots mode valid.0; owes = refl }))

    kept : (i : ℕ) (q : Place) → SamePlace g xs i q → number q (openings ys) ≡ some i
    kept i q here = rw (openings_snoc xs x) (note_keeps q (place mode []) (events (p ∷ ps)) (openings xs) i here)

    -- from the openings that were admitted to the mappings
    go : {o : Result Cursor} (b : Bool) → Both (Represented ys) o (unless b 2 (accept (openings ys)))
        → Both (Grown graph_kind list_kind SameBindings SamePlace g xs) (o >>= λ c. accept c.graph) (unless b 2 (accept ys))
    go true (both_accept u) = both_accept (record { bindings = u; places = kept })
    go false (both_refuse n o) = both_refuse n o

-- ---- the fresh graph

root_node : (k n m : ℕ) → m < n → get_or (roots n k) m no_node ≡ record { mode = k + m; action = Root }
unfolding roots
root_node k zero m h = absurd (not-suc-le-zero h)
root_node k (suc n) zero h = ap (λ x. record { mode = x; action = Root }) (sym (add-zero k))
root_node k (suc n) (suc m) h = root_node (suc k) n m (le_of_suc-le-suc h) ∙ ap (λ x. record { mode = x; action = Root }) (omega arith)

fresh_node : (q : Place) (i : ℕ) → number q [] ≡ some i → get_node fresh_graph i ≡ node_for q none
unfolding fresh_graph get_node
fresh_node q i h =
    let k = root_is q.mode q.path i h in
    rw (k.0, ← k.1) (root_node 0 mode_count q.mode k.2 ∙ ap (λ x. record { mode = x; action = Root }) (omega arith))

pub fresh_same : SameBindings fresh_graph []
unfolding fresh_graph get_edge end_in openings note_all step_at fall_at last_of present roots
fresh_same = record {
  tree = record { roots = root_number_lem; closed = λ q e h. no_root q.mode q.path e []; turning = λ q. no_root q.mode q.path Fallthrough []; small = omega arith };
  node = fresh_node;
  ons = λ q i h e t. sym (no_root q.mode q.path e []);
  falls = λ q i h. refl;
  size = refl;
  beyond = λ i h e. refl;
  bare = λ q h. (refl, refl);
  room = omega arith;
  nexts = λ q. tt;
  landings = λ q. tt;
}
