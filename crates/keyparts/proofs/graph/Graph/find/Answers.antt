-- The loop: the search that is left, from a node on, gives what the whole search gives. A node that passes the test ends it, and
-- behind the last node there is none.
use Prim.Native.Nat.{◌≤◌, ◌<◌}
use mathlib.Core.Path.{◌≡◌, refl, sym, ap, ◌∙◌}
use mathlib.Core.Bool.{true, false}
use mathlib.Core.List.{map}
use native.Mathlib.Omega.{arith}
use lib.ListN.{length, get_or, length-map, get_or-map}
use borrow.Author.Tests.{le-ltb}
use Rattle.rules.specs.Calls.{holds_action, find}
use Rattle.rules.specs.Graph.{no_node}
use Rattle.keyvalues.specs.View.{node_in}
use Rattle.keyparts.specs.View.{graph_of}
use Rattle.keyparts.proofs.Finds.{node_next, node_here, node_none, node_read}
use Rattle.keyparts.proofs.graph.Graph.find.Goals as goal

pub returns-then-mode-ge-MODES : goal.returns-then-mode-ge-MODES
unfolding find
returns-then-mode-ge-MODES c = rw (le-ltb c.args.mode 16 c.if-mode-ge-MODES.true)

pub loop-place-init : goal.loop-place-init
loop-place-init c = refl

pub returns-then-has_action : goal.returns-then-has_action
unfolding graph_of
returns-then-has_action c = let a = c.args in let ns = c.front-nodes.result.now in let i = c.loop-place.place in
    rw (← c.front-nodes.ensures)
    (node_here (map node_in ns) a.mode a.action i c.loop-place.invariant _ c.if-mode-ge-MODES.false (omega (arith, c.loop-place-test.true, length-map ns node_in))
    (ap (holds_action a.mode a.action) (node_read ns i c.loop-place-test.true) ∙ sym c.has_action.ensures ∙ c.if-has_action.true))

pub loop-place-preserved : goal.loop-place-preserved
loop-place-preserved c = let a = c.args in let ns = c.front-nodes.result.now in let i = c.loop-place.place in
    node_next (map node_in ns) a.mode a.action i c.loop-place.invariant (omega (arith, c.loop-place-test.true, length-map ns node_in))
    (ap (holds_action a.mode a.action) (node_read ns i c.loop-place-test.true) ∙ sym c.has_action.ensures ∙ c.if-has_action.false)

pub returns : goal.returns
unfolding graph_of
returns c = let a = c.args in let ns = c.front-nodes.result.now in
    rw (← c.front-nodes.ensures)
    (node_none (map node_in ns) a.mode a.action c.loop-place.place c.loop-place.invariant _ c.if-mode-ge-MODES.false (omega (arith, c.loop-place-test.false, length-map ns node_in)))
