-- After the mark, a step with neither actions nor a next mode stays, and any other gives and enters.
use Rattle.std.proofs.Common.{◌≡◌, ◌∙◌}
use Rattle.rules.specs.KeyLoop.{step, step_to}
use Rattle.rules.specs.Calls.{graph_navigator}
use Rattle.keyvalues.specs.View.{step_of, maybe_of}
use Rattle.keytables.specs.View.{tables_of}
use Rattle.keypairs.specs.View.{live_of, give_goto}
use Rattle.keypairs.proofs.Modes.{step_enters, step_gives}
use Rattle.keypairs.proofs.live.Live.step_or_scratch.Goals as goal
use Rattle.keypairs.proofs.live.Live.step_or_scratch.Goals.{else-is_empty-via-then-is_empty+else-is_none, else-is_empty-via-else-is_empty}

pub returns : goal.returns
unfolding step step_of
returns c bs = let a = c.args in
    let m = live_of (tables_of a.tables.now) c.set_mark.new.self in
    let acts = c.list-actions.result.now in
    let next = a.step.now.next in
    let goes : give_goto bs acts (maybe_of next) m.shared ≡ step_to (graph_navigator bs) acts (maybe_of next) m
    = elim c.else-is_empty.branch [
      | else-is_empty-via-then-is_empty+else-is_none w ↦ step_enters bs m acts next w.if-is_none.ensures
      | else-is_empty-via-else-is_empty w ↦ step_gives bs m acts next w.if-is_empty.ensures
    ] in
    rw (← c.set_mark.ensures (tables_of a.tables.now), ← c.list-actions.ensures.0) (c.give_goto.ensures bs ∙ goes)
