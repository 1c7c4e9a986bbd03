-- A line more of the pairs that are left.
use native.Mathlib.Omega.{arith}
use mathlib.Core.Path.{◌∙◌}
use Rattle.rules.specs.Run.{line_of}
use Rattle.keypairs.specs.View.{pair_by}
use Rattle.mapparts.specs.View.{page_of}
use Rattle.playback.proofs.Putting.{put_within}
use Rattle.playback.proofs.Finding.{left_next}
use Rattle.playback.proofs.lines.put_lines.Goals as goal

pub loop-reader-preserved : goal.loop-reader-preserved
loop-reader-preserved c =
    let l = c.loop-reader in
    let p = pair_by c.in_ok-pair.pair in
    let k = c.in_ok-put_line.ensures in record {
      same = k.0 ∙ l.invariant.same;
      long = k.1 ∙ l.invariant.long;
      within = put_within (line_of p) l.writer.at l.writer.bytes.now _ k.2;
      left = λ ps e s. left_next ps (page_of c.args.writer.now) _ (page_of l.writer) (l.invariant.left ps e s) p _ (λ z. grind arith) c.in_ok-pair.ensures.reads _ k.2;
    }
