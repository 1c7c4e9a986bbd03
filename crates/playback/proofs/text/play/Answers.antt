-- The run's answer is what the input comes to.
use native.Mathlib.Omega.{arith}
use mathlib.Core.Path.{subst}
use lib.ListN.{length}
use Rattle.rules.specs.Run.{run}
use Rattle.playback.specs.View.{Played}
use Rattle.playback.proofs.Texts.{play_run, ran_out}
use Rattle.playback.proofs.text.play.Goals as goal

pub returns : goal.returns
returns c =
    let a = c.args in
    let map = c.in_ok-map.map.now in
    let keys = c.in_ok-map.keys.now in
    let out = c.run.new.output in
    let h = rw c.in_ok-map.ensures.ok_part at c.split_at_checked.ensures.cases in
    subst (λ x. Played x c.run.result out) (play_run a.input.now (omega arith) _ _ c.in_ok-size.ensures.reads h.0 map keys h.1 h.2 (length a.output.now) c.told-output) (ran_out (run map keys 1000 (length a.output.now)) a.output.now out c.run.result c.run.ensures.ran c.run.ensures.sent c.run.ensures.few c.run.auto.output)
