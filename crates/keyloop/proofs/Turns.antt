-- A turn is what following comes to: by an event to a node, where the event hook is run first; falling to a node; or nothing.
use Prim.Native.Nat.{ℕ}
use mathlib.Core.Path.{◌≡◌, refl, ap, ◌∙◌}
use mathlib.Core.List.{List}
use mathlib.Core.Option.{none, some}
use Rattle.rules.specs.Basics.{Result, accept, refuse}
use Rattle.rules.specs.Values.{Event}
use Rattle.rules.specs.Tables.{ClassEntry}
use Rattle.rules.specs.Graph as g
use Rattle.rules.specs.Graph.{NodeAction, Empty, Root, Holds, get_node, Successor, FallsTo, NoSuccessor}
use Rattle.rules.specs.KeyLoop.{Shared, State, InputResult, Unmapped, at, run_hook}
use Rattle.rules.specs.Calls.{arrive, land, turn_by}
use Rattle.keyparts.specs.declared.graph.Graph.{Graph}
use Rattle.keyparts.specs.declared.index.Index.{Index}
use Rattle.keyparts.specs.View.{graph_of, edge_words, follow_links}
use Rattle.keypairs.specs.View.{hooked}
use Rattle.keyloop.specs.View.{link_navigator, turned}

-- arriving and landing come to the node that was followed to, by the event that was gone by
pub arrive_is : (g : g.Graph) (to : ℕ) (ev : Event) (a : NodeAction) → arrive g to ev a ≡ record { event = some ev; place = to; result = (arrive g to ev a).result }
unfolding arrive
arrive_is g to ev Empty = refl
arrive_is g to ev Root = refl
arrive_is g to ev (Holds s) = refl

land_is : (to : ℕ) (a : NodeAction) → land to a ≡ record { event = none; place = to; result = (land to a).result }
unfolding land
land_is to Empty = refl
land_is to Root = refl
land_is to (Holds s) = refl

-- cs' is the class table, as the code reads it
module _ (gr : Graph) (ix : Index) (n k : ℕ) (cs cs' : List ClassEntry) (same : cs' ≡ cs) (c : Shared) where
  abbrev Turned : Result (InputResult × State ℕ) → Type 0
  Turned r = r ≡ turned ((link_navigator gr ix).turn cs n k) k c

  pub nowhere : NoSuccessor ≡ follow_links cs' (edge_words gr) ix.links n k → Turned (accept (Unmapped, at n c))
  unfolding link_navigator turn_by run_hook
  nowhere by = rw (← same, ← by) refl

  pub falls : (to : ℕ) → FallsTo to ≡ follow_links cs' (edge_words gr) ix.links n k → (nd : g.Node) → nd ≡ get_node (graph_of gr) to → (x : InputResult) (m : State ℕ) → x ≡ (land to nd.action).result → m ≡ at to c
      → Turned (accept (x, m))
  unfolding link_navigator turn_by run_hook
  falls to by nd en x m ex em = rw (← same, ← by, ← en, ex, em, land_is to nd.action) refl

  module _ (to : ℕ) (ev : Event) (by : Successor ev to ≡ follow_links cs' (edge_words gr) ix.links n k) (m₁ : State ℕ) (come : m₁ ≡ at to c) where
    pub arrives : (nd : g.Node) → nd ≡ get_node (graph_of gr) to → (x : InputResult) (m : State ℕ) → x ≡ (arrive (graph_of gr) to ev nd.action).result → accept m ≡ hooked (some ev) k m₁ → Turned (accept (x, m))
    unfolding link_navigator turn_by
    arrives nd en x m ex em = let e : accept m ≡ hooked (some ev) k (at to c) = em ∙ ap (hooked (some ev) k) come in
        rw (← same, ← by, ← en, ex, arrive_is (graph_of gr) to ev nd.action, ← e) refl

    pub overflows : (r : ℕ) → refuse r ≡ hooked (some ev) k m₁ → Turned (refuse r)
    unfolding link_navigator turn_by
    overflows r em = let e : refuse r ≡ hooked (some ev) k (at to c) = em ∙ ap (hooked (some ev) k) come in
        rw (← same, ← by, arrive_is (graph_of gr) to ev (get_node (graph_of gr) to).action, ← e) refl
