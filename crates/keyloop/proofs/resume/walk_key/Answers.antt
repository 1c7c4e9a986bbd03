-- An event leads to the node that was followed to, if more is needed there.
use Rattle.keyvalues.specs.View.{event_of}
use Rattle.keyloop.proofs.Walks.{leads}
use Rattle.keyloop.proofs.resume.walk_key.Goals as goal

pub returns-in-Successor : goal.returns-in-Successor
returns-in-Successor c = let s = c.in-Successor in let ev = event_of s.field-0 in
    rw (c.then_some.ensures, c.needs_more.ensures) (leads _ _ _ _ _ _ c.classes.ensures s.to ev s.ensures _ c.node.ensures _ (c.arrive.ensures ev))
