-- The edge stands before the best so far, or it does not.
use Rattle.keyparts.proofs.Remembered.{better_new, better_old}
use Rattle.keyparts.proofs.follow.Ranked.better.Goals as goal

pub returns-then-edge-self : goal.returns-then-edge-self
returns-then-edge-self c = λ cs k r. better_new c.args.self c.args.edge cs k r c.if-edge-self.true

pub returns-else-edge-self : goal.returns-else-edge-self
returns-else-edge-self c = λ cs k r. better_old c.args.self c.args.edge cs k r c.if-edge-self.false
