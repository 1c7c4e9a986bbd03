-- The search that is left, from a node on, gives what the whole search gives.
use mathlib.Core.List.{map}
use Rattle.keyvalues.specs.View.{node_in}
use Rattle.keyparts.proofs.Finds.{LeftFrom}
use Rattle.keyparts.proofs.graph.Graph.find.Given as goal

abbrev pub invariant-loop-place : goal.invariant-loop-place
invariant-loop-place l = LeftFrom (map node_in l.nodes) l.mode l.action l.place
