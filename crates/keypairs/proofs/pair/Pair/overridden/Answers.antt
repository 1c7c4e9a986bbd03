-- The cases are those of the definition.
use Rattle.rules.specs.KeyLoop.{override}
use Rattle.keypairs.proofs.pair.Pair.overridden.Goals as goal

pub returns-in-None : goal.returns-in-None
unfolding override
returns-in-None c = rw c.in-None.is

pub returns-in-Some : goal.returns-in-Some
unfolding override
returns-in-Some c = rw (c.in-Some.is, c.merge.ensures)
