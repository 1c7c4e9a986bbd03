-- The first i are changed, and the others are as they were.
use Rattle.keypairs.specs.View.{tracker_by, broke}
use Rattle.std.proofs.Common.{◌≡◌, length}
use Rattle.keypairs.proofs.Lists.{Changed}
use Rattle.keypairs.proofs.live.Live.break_all.Given as goal

abbrev pub invariant-loop-sequence : goal.invariant-loop-sequence
invariant-loop-sequence l = record {
  long : length l.sequence-items ≡ length l.initial.sequence-items;
  changed : Changed tracker_by broke l.initial.sequence-items l.sequence-items l.sequence-index;
}
