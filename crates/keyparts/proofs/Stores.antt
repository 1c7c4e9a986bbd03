-- What a store in a graph's words does to the graph.
use Prim.Native.Nat.{ℕ, ◌+◌, ◌-◌, ◌<◌, ◌≤◌, min}
use mathlib.Core.Path.{◌≡◌, sym, ap, ◌∙◌, subst}
use mathlib.Core.Bool.{true, false}
use mathlib.Core.List.{List, [], ◌∷◌, ◌++◌, map, map-append}
use native.Mathlib.Omega.{arith}
use native.Mathlib.Numerals.{add-one}
use lib.Dec.{ltb}
use lib.ListN.{length, take, set, length-take, length-map, length-set}
use lib.Seq.{set_out, take-set-lt, take-suc-set}
use borrow.Author.Tests.{lt-ltb, le-ltb, eq-eqb, ne_eqb}
use Rattle.rules.specs.Basics.{accept, refuse, unless}
use Rattle.rules.specs.Graph.{add_node, get_node, settle}
use Rattle.rules.specs.Calls.{nodes_made, hint}
use Rattle.keyparts.specs.declared.graph.Graph as d
use Rattle.keyvalues.specs.declared.node.NodeWords.{NodeWords}
use Rattle.keyvalues.specs.View.{node_in, holds_step, graph_by}
use Rattle.std.proofs.lemmas.List.{map-set}
use Rattle.keyvalues.proofs.Nodes.{settle_plain, settle_holds}
use Rattle.rules.specs.Graph as g
use Rattle.keyparts.specs.declared.edge.EdgeWord.{EdgeWord}
use Rattle.keyparts.specs.View.{key_in, edge_of, edge_words, graph_of, nodes_from, first_place, key_is, word_put}
use Rattle.keyparts.proofs.Links.{edges_all, edges_short}
use Rattle.keyparts.proofs.Finds.{first_most, word_over, word_behind, word_nowhere}

-- ---- an edge's word: i is the place that the search for its key gave
module _ (x : d.Graph) (long : length x.edges ≡ 2048) where
  pub edges_total : length (edge_words x) ≡ min x.counts.edges 2048
  edges_total = rw (← edges_all x long) (omega (arith, length-take x.counts.edges x.edges))

  module _ (w : EdgeWord) where
    abbrev over : ℕ → d.Graph
    over i = record { edges = set x.edges i w; nodes = x.nodes; counts = x.counts }

    abbrev behind : d.Graph
    behind = record { edges = set x.edges x.counts.edges w; nodes = x.nodes; counts = record { nodes = x.counts.nodes; edges = x.counts.edges + 1 } }

    long_set : (i : ℕ) → length (set x.edges i w) ≡ 2048
    long_set i = length-set x.edges i w ∙ long

    pub put_nowhere : length (edge_words x) ≤ first_place (key_is (key_in w)) (edge_words x) → 2048 ≤ x.counts.edges → edge_words x ≡ word_put (edge_words x) w
    put_nowhere h r = word_nowhere (edge_words x) w h (omega (arith, edges_total))

    -- the place that the search for the word's key gave
    module _ (i : ℕ) (hi : i ≡ first_place (key_is (key_in w)) (edge_words x)) where
      found : i ≤ length (edge_words x)
      found = omega (arith, first_most (key_is (key_in w)) (edge_words x))

      pub put_over : i < length (edge_words x) → edge_words (over i) ≡ word_put (edge_words x) w
      put_over h =
          let l : i < x.counts.edges = omega (arith, edges_total) in
          sym (edges_all (over i) (long_set i)) ∙ take-set-lt x.counts.edges x.edges i w l ∙ ap (λ (ws : List EdgeWord). set ws i w) (edges_all x long)
          ∙ rw hi (word_over (edge_words x) w (subst (λ (j : ℕ). j < length (edge_words x)) hi h))

      pub put_behind : length (edge_words x) ≤ i → x.counts.edges < 2048 → edge_words behind ≡ word_put (edge_words x) w
      put_behind h r =
          let l : x.counts.edges < length x.edges = omega arith in
          sym (edges_all behind (long_set x.counts.edges)) ∙ rw (add-one, take-suc-set x.edges x.counts.edges w l) (ap (λ (ws : List EdgeWord). ws ++ (w ∷ [])) (edges_all x long))
          ∙ word_behind (edge_words x) w (omega arith) (omega (arith, edges_total))

      pub stored_over : i < length (edge_words x) → accept (graph_of (over i)) ≡ unless (ltb i 2048) 3 (accept (graph_by (graph_of x).nodes (map edge_of (edge_words (over i)))))
      unfolding graph_of
      stored_over h = let l : i < 2048 = omega (arith, edges_short x) in rw (lt-ltb i 2048 l)

      pub stored_behind : length (edge_words x) ≤ i → x.counts.edges < 2048 → accept (graph_of behind) ≡ unless (ltb i 2048) 3 (accept (graph_by (graph_of x).nodes (map edge_of (edge_words behind))))
      unfolding graph_of
      stored_behind h r = let l : i < 2048 = omega (arith, found, edges_total) in rw (lt-ltb i 2048 l)

      pub stored_nowhere : (y : g.Graph) → length (edge_words x) ≤ i → 2048 ≤ x.counts.edges → refuse 3 ≡ unless (ltb i 2048) 3 (accept y)
      stored_nowhere y h r = let l : 2048 ≤ i = omega (arith, edges_total) in rw (le-ltb i 2048 l)

-- ---- nodes: p is the words that are stored
module _ (x : d.Graph) (long : length x.nodes ≡ 1040) where
  pub nodes_total : length (nodes_from x.nodes x.counts.nodes) ≡ min x.counts.nodes 1040
  nodes_total = omega (arith, length-map (take x.counts.nodes x.nodes) node_in, length-take x.counts.nodes x.nodes)

  pub nodes_left : 1024 - (x.counts.nodes - 16) ≡ hint (graph_of x)
  unfolding nodes_made hint graph_of
  nodes_left = omega (arith, nodes_total)

  module _ (p : NodeWords) where
    pub node_added : x.counts.nodes < 1040
        → accept (graph_of (record { edges = x.edges; nodes = set x.nodes x.counts.nodes p; counts = record { nodes = x.counts.nodes + 1; edges = x.counts.edges } }), x.counts.nodes)
        ≡ add_node (node_in p).mode (node_in p).action (graph_of x)
    unfolding add_node graph_of edge_words
    node_added h =
        let l : x.counts.nodes < length x.nodes = omega arith in
        let n : length (nodes_from x.nodes x.counts.nodes) ≡ x.counts.nodes = omega (arith, nodes_total) in
        rw (n, lt-ltb x.counts.nodes 1040 h, add-one, take-suc-set x.nodes x.counts.nodes p l, map-append node_in (take x.counts.nodes x.nodes) (p ∷ []))

    pub node_none : 1040 ≤ x.counts.nodes → refuse 2 ≡ add_node (node_in p).mode (node_in p).action (graph_of x)
    unfolding add_node graph_of
    node_none h =
        let n : 1040 ≤ length (nodes_from x.nodes x.counts.nodes) = omega (arith, nodes_total) in
        rw (le-ltb (length (nodes_from x.nodes x.counts.nodes)) 1040 n)

  -- the node at the end of an edge gets the step of p
  module _ (node : ℕ) (p : NodeWords) where
    pub settle_small : holds_step (node_in p).action ≡ false → accept (graph_of x, node) ≡ settle (node_in p).mode node (node_in p).action (graph_of x)
    settle_small = settle_plain (node_in p) node (graph_of x)

    module _ (holds : holds_step (node_in p).action ≡ true) where
      pub settle_differs : ((get_node (graph_of x) node).mode ≡ (node_in p).mode → ⊥) → refuse 4 ≡ settle (node_in p).mode node (node_in p).action (graph_of x)
      settle_differs q = rw (settle_holds (node_in p) node (graph_of x) holds, ne_eqb (get_node (graph_of x) node).mode (node_in p).mode q)

      module _ (same : (get_node (graph_of x) node).mode ≡ (node_in p).mode) where
        settled : settle (node_in p).mode node (node_in p).action (graph_of x) ≡ accept (record { nodes = set (graph_of x).nodes node (node_in p); edges = (graph_of x).edges }, node)
        settled = rw (settle_holds (node_in p) node (graph_of x) holds, eq-eqb (get_node (graph_of x) node).mode (node_in p).mode same)

        pub settle_put : node < min x.counts.nodes 1040
            → accept (graph_of (record { edges = x.edges; nodes = set x.nodes node p; counts = x.counts }), node) ≡ settle (node_in p).mode node (node_in p).action (graph_of x)
        unfolding graph_of edge_words
        settle_put h =
            let l : node < x.counts.nodes = omega arith in
            rw (settled, take-set-lt x.counts.nodes x.nodes node p l, map-set node_in (take x.counts.nodes x.nodes) node p)

        pub settle_past : min x.counts.nodes 1040 ≤ node → accept (graph_of x, node) ≡ settle (node_in p).mode node (node_in p).action (graph_of x)
        unfolding graph_of
        settle_past h =
            let l : length (nodes_from x.nodes x.counts.nodes) ≤ node = omega (arith, nodes_total) in
            rw (settled, set_out (nodes_from x.nodes x.counts.nodes) node (node_in p) l)
