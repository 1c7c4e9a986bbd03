-- After i turns the first i sequences are broken and the others as they were.
use Rattle.std.proofs.Common.{◌≡◌, ◌∙◌, length, arith}
use lib.ListN.{length-set}
use Rattle.keypairs.specs.View.{tracker_by, broke}
use Rattle.keypairs.proofs.Lists.{changed_on}
use borrow.Author.Rules.{rules}
use Rattle.keypairs.proofs.live.Live.break_all.Goals as goal

pub loop-sequence-preserved : goal.loop-sequence-preserved
loop-sequence-preserved c = let l = c.loop-sequence in let ss = c.args.self.now.sequences in let n : length ss ≡ 8 = search rules in record {
  long = length-set _ _ _ ∙ l.invariant.long;
  changed = changed_on tracker_by broke ss l.sequence-items l.sequence-index _ _ (omega arith) l.invariant.long c.break_off.ensures l.invariant.changed;
}
