-- The place that the links lead to from the first edge of the chain is the one that they lead to from place `at` in the steps that are
-- left.
use Prim.Native.Nat.{◌-◌}
use mathlib.Core.Path.{◌≡◌}
use Rattle.keyparts.specs.View.{edge_words, place_on, linked_place}
use Rattle.keyparts.proofs.index.IndexedGraph.place.Given as goal

abbrev pub invariant-loop : goal.invariant-loop
invariant-loop l = linked_place (edge_words l.self.graph.now) l.self.index.now.links l.key ≡ place_on (2048 - l.counter) (edge_words l.self.graph.now) l.self.index.now.links l.key l.at
