-- A word's start is its edge's, so the search in the words is that in the edges.
use mathlib.Core.Path.{◌∙◌}
use Rattle.std.proofs.Common.{rules, tests}
use Rattle.std.proofs.lemmas.Iterator.{YieldsList-from_slice}
use Rattle.std.proofs.lemmas.Iterator.Search.{any_from_yields_List}
use Rattle.rules.specs.Graph.{Edge, has_edges}
use lib.Dec.{eqb}
use Rattle.keyparts.specs.declared.edge.EdgeWord.{EdgeWord}
use Rattle.keyparts.specs.View.{edge_of, graph_of}
use Rattle.keyparts.proofs.Finds.{any_told}
use Rattle.keyparts.proofs.graph.Graph.has_edges.Goals as goal

pub returns : goal.returns
unfolding has_edges graph_of
returns c = let a = c.args in rw (← c.edge_words-words.ensures.words) (
    any_from_yields_List (λ (w : EdgeWord). eqb (edge_of w).from a.node) _ _ c.any.result c.any.ensures.ran (YieldsList-from_slice _ c.iter.ensures.rest) (λ x b q k. search (rules, tests))
    ∙ any_told edge_of (λ (e : Edge). eqb e.from a.node) _)
