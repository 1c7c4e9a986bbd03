-- Of the edges gone through so far, with any edges before them, the best is the edge that following takes in a graph with only these.
use Prim.Native.Nat.{◌-◌}
use mathlib.Core.List.{map}
use Rattle.keyvalues.specs.View.{class_at, event_of}
use Rattle.keyparts.specs.View.{edge_words}
use Rattle.keyparts.proofs.Passes.{Passed}
use Rattle.keyparts.proofs.index.IndexedGraph.pass.Given as goal

abbrev pub invariant-loop : goal.invariant-loop
invariant-loop l = Passed (map class_at l.order.classes.now) l.node l.order.key (edge_words l.self.graph.now) l.self.index.now.links (event_of l.fn.event) l.fn.start (2048 - l.counter) l.at l.best
