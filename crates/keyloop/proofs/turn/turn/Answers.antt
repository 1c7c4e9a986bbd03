-- The place is come to first, and by an event the hook is run there.
use Rattle.std.proofs.Common.{Ok, Err}
use Rattle.std.proofs.lemmas.Result.{err_from_is_err_and}
use Rattle.keytables.specs.View.{tables_of}
use Rattle.keyvalues.specs.View.{event_of}
use Rattle.keyvalues.proofs.Settled.{settled_told}
use Rattle.keyloop.proofs.Turns.{arrives, overflows, falls}
use Rattle.keyloop.proofs.turn.turn.Goals as goal

pub returns-in_err-hook-in-Successor : goal.returns-in_err-hook-in-Successor
returns-in_err-hook-in-Successor c = let T = tables_of c.args.map.now.tables.now in let s = c.in-Successor in
    let p = err_from_is_err_and c.from_residual.result c.from_residual.ensures.1 in
    rw (p.1, p.2) (overflows _ _ _ _ _ _ c.classes.ensures _ s.to (event_of s.event) s.ensures _ (c.come_to.ensures T) _ (settled_told _ _ (Err _) _ (c.in_err-hook-in-Successor.ensures T)))

pub returns-in_ok-hook-in-Successor : goal.returns-in_ok-hook-in-Successor
returns-in_ok-hook-in-Successor c = let T = tables_of c.args.map.now.tables.now in let s = c.in-Successor in
    arrives _ _ _ _ _ _ c.classes.ensures _ s.to (event_of s.event) s.ensures _ (c.come_to.ensures T) _ c.node.ensures _ _ (c.arrive.ensures (event_of s.event)) (settled_told _ _ (Ok _) _ (c.in_ok-hook-in-Successor.ensures T))

pub returns-in-Fallthrough : goal.returns-in-Fallthrough
returns-in-Fallthrough c =
    falls _ _ _ _ _ _ c.classes.ensures _ _ c.in-Fallthrough.ensures _ c.node-in-Fallthrough.ensures _ _ c.land.ensures (c.come_to-in-Fallthrough.ensures (tables_of c.args.map.now.tables.now))
