-- The edges that are left stand before those that are linked, and the links lead to the latter.
use mathlib.Core.Path.{◌≡◌}
use mathlib.Core.List.{List, ◌++◌}
use lib.ListN.{length}
use Rattle.keyparts.specs.declared.edge.EdgeWord.{EdgeWord}
use Rattle.keyparts.specs.View.{edge_words}
use Rattle.keyparts.proofs.Links.{edges_short, Linked}
use Rattle.keyparts.proofs.index.Index.new.Given as goal

abbrev pub invariant-loop-place : goal.invariant-loop-place
invariant-loop-place l = let left = l.place-iterator.iter.iter.rest.now in
    (l.place-iterator.iter.count ≡ 0) × ((linked : List EdgeWord) × (left ++ linked ≡ edge_words l.graph)) × Linked (edge_words l.graph) (edges_short l.graph) l.index.links (length left)
