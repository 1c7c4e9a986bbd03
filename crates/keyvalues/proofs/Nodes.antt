-- What settling a node comes to, by whether its action is a step.
use Prim.Native.Nat.{ℕ}
use mathlib.Core.Path.{◌≡◌, refl}
use mathlib.Core.Bool.{true, false}
use lib.Dec.{eqb}
use lib.ListN.{set}
use Rattle.rules.specs.Basics.{accept, unless}
use Rattle.rules.specs.Graph.{Empty, Root, Holds, Node, Graph, settle, get_node}
use Rattle.keyvalues.specs.View.{holds_step}

-- a node that is there gets the step
pub settle_plain : (n : Node) (node : ℕ) (g : Graph) → holds_step n.action ≡ false → accept (g, node) ≡ settle n.mode node n.action g
unfolding settle holds_step
settle_plain n node g h = go n.action h
  where
    go : (a : _) → holds_step a ≡ false → accept (g, node) ≡ settle n.mode node a g
    go Empty h = refl
    go Root h = refl
    go (Holds s) h = absurd cc

pub settle_holds : (n : Node) (node : ℕ) (g : Graph) → holds_step n.action ≡ true
    → settle n.mode node n.action g ≡ unless (eqb (get_node g node).mode n.mode) 4 (accept (record { nodes = set g.nodes node n; edges = g.edges }, node))
unfolding settle holds_step
settle_holds n node g h = go n.action h
  where
    go : (a : _) → holds_step a ≡ true → settle n.mode node a g ≡ unless (eqb (get_node g node).mode n.mode) 4 (accept (record { nodes = set g.nodes node (record { mode = n.mode; action = a }); edges = g.edges }, node))
    go Empty h = absurd cc
    go Root h = absurd cc
    go (Holds s) h = refl
