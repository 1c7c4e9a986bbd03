-- The loop: the links lead to the edges from a place on. It begins with no edge and ends with all.
use mathlib.Core.Path.{◌≡◌, subst, ◌∙◌}
use mathlib.Core.List.{[], append-nil}
use native.Mathlib.Omega.{arith}
use lib.ListN.{length}
use Rattle.keyparts.specs.View.{edge_words}
use Rattle.keyparts.proofs.Links.{edges_short, Linked, linked_none, linked_next, linked_all}
use Rattle.keyparts.proofs.index.Index.new.Goals as goal

pub loop-place-init : goal.loop-place-init
loop-place-init c = let g = c.args.graph.now in
    rw (c.into_iter-place-iterator.ensures.into_iter_gives, c.rev-place-items.ensures.source, c.enumerate.ensures.source, c.iter.ensures.rest, c.edge_words.ensures.words)
    (c.enumerate.ensures.count, ([], append-nil (edge_words g)), linked_none (edge_words g) (edges_short g))

pub loop-place-preserved : goal.loop-place-preserved
loop-place-preserved c = let g = c.args.graph.now in let l = c.loop-place in let s = c.in-Some.ensures.steps in
    let at : c.in-Some.place ≡ length c.next.new.self.iter.iter.rest.now = omega (arith, s.1.1, l.invariant.0) in
    let e = linked_next (edge_words g) (edges_short g) l.index.links c.next.new.self.iter.iter.rest.now l.invariant.1.0 c.in-Some.word.now (rw s.1.0 at l.invariant.1.1) (rw s.1.0 at l.invariant.2) in
    (s.0 ∙ l.invariant.0, (_, e.0), rw (c.link.ensures, c.key.ensures, at) e.1)

pub returns : goal.returns
returns c = let g = c.args.graph.now in let l = c.loop-place in
    linked_all (edge_words g) (edges_short g) l.index.links (subst (Linked (edge_words g) (edges_short g) l.index.links) c.in-None.ensures.steps.1.0 l.invariant.2)
