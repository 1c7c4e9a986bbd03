-- A turn of the loop stores one root's words, and the sixteen are the rules' roots.
use Prim.Native.Nat.{ℕ, ◌+◌, ◌%◌, ◌<◌, ◌≤◌}
use mathlib.Core.Path.{◌≡◌, refl}
use mathlib.Core.List.{List, ◌++◌, map}
use native.Mathlib.Omega.{arith}
use native.Mathlib.Numerals.{add-one}
use lib.ListN.{length, set}
use lib.Seq.{take_at}
use Rattle.rules.specs.Graph.{Root, fresh_graph, roots, no_node}
use Rattle.keyparts.specs.declared.edge.EdgeWord.{EdgeWord}
use Rattle.keyvalues.specs.declared.node.NodeWords.{NodeWords}
use Rattle.keyvalues.specs.View.{node_in, node_at, action_at}
use Rattle.std.proofs.lemmas.List.{map-set}
use Rattle.keyparts.specs.View.{graph_of, edge_words}
use Rattle.keyparts.proofs.graph.Graph.fresh.Invariants.{rooted}
use Rattle.keyparts.proofs.graph.Graph.fresh.Goals as goal

rooted_next : (n : ℕ) (ps : List NodeWords) (w : NodeWords) → map node_in ps ≡ rooted n → n < 16 → node_in w ≡ record { mode = n % 128; action = Root } → map node_in (set ps n w) ≡ rooted (n + 1)
unfolding rooted
rooted_next n ps w e h r = let m : n % 128 ≡ n = omega arith in rw (add-one n, map-set node_in ps n w, e, r, m)

all_roots : (n : ℕ) (ps rest : List NodeWords) (es : List EdgeWord) → map node_in ps ≡ rooted n → length ps ≡ 16 → n ≤ 16 → 16 ≤ n
    → graph_of (record { edges = es; nodes = ps ++ rest; counts = record { nodes = 16; edges = 0 } }) ≡ fresh_graph
unfolding rooted fresh_graph roots no_node graph_of edge_words
all_roots n ps rest es e l h k = let i : n ≡ 16 = omega arith in
    rw (take_at ps rest 16 l, e, i)

pub loop-mode-init : goal.loop-mode-init
unfolding rooted node_at action_at no_node
loop-mode-init c = refl

pub loop-mode-preserved : goal.loop-mode-preserved
loop-mode-preserved c = rooted_next c.loop-mode.mode c.loop-mode.words-items c.root.result c.loop-mode.invariant (omega arith) c.root.ensures

pub returns : goal.returns
returns c = all_roots c.loop-mode.mode c.loop-mode.words-items _ _ c.loop-mode.invariant c.loop-mode.auto.words-items (omega arith) (omega arith)
