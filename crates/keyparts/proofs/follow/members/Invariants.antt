-- A class whose bit is not in the set is that of no entry so far.
use Rattle.keyparts.proofs.Members.{Told}
use Rattle.keyparts.proofs.follow.members.Given as goal

abbrev pub invariant-loop-entry : goal.invariant-loop-entry
invariant-loop-entry l = Told l.classes l.key l.entry-index l.set
