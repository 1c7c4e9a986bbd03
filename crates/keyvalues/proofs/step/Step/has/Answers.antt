-- The library asks whether some action is the one searched, and the rules whether the one searched is some action.
use Rattle.std.proofs.Common.{◌∙◌}
use Rattle.keyvalues.specs.View.{step_of}
use Rattle.keyvalues.proofs.Lists.{some_found}
use Rattle.keyvalues.proofs.step.Step.has.Goals as goal

pub returns : goal.returns
unfolding step_of
returns c = let a = c.args.action in rw c.list.ensures.0 at (c.contains.ensures.value) ∙ some_found a _
