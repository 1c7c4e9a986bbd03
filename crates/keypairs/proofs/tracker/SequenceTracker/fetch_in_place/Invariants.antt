-- The first i are changed, and the others are as they were.
use Rattle.rules.specs.KeyLoop as key
use Rattle.keypairs.specs.View.{pair_of, over_of}
use Rattle.keypairs.proofs.Lists.{Changed}
use Rattle.keypairs.proofs.tracker.SequenceTracker.fetch_in_place.Given as goal

abbrev pub invariant-loop-w : goal.invariant-loop-w
invariant-loop-w l = Changed pair_of (key.override (over_of l.over)) l.initial.w-items l.w-items l.w-index
