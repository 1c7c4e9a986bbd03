-- The node's mode tells the entry, whose list is given and whose next mode is entered.
use Rattle.rules.specs.KeyLoop.{unmapped}
use Rattle.rules.specs.Graph.{get_node}
use Rattle.rules.specs.Calls.{graph_navigator}
use Rattle.keyvalues.specs.View.{node_of, graph_by}
use Rattle.keyparts.specs.View.{graph_of}
use Rattle.keytables.specs.View.{entry_by}
use Rattle.keypairs.proofs.live.Live.unmapped_or_scratch.Goals as goal

pub returns : goal.returns
unfolding entry_by node_of unmapped graph_navigator get_node
returns c es = let g = graph_by (graph_of c.args.graph.now).nodes es in
    rw (← c.node-node.ensures, ← c.of-entry.ensures, ← c.list.ensures.0) (c.give_goto.ensures g)
