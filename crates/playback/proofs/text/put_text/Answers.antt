-- The text of what the input comes to.
use mathlib.Core.Path.{subst}
use Rattle.mapparts.specs.View.{Writes, placed}
use Rattle.playback.proofs.Texts.{text_ran, text_refused}
use Rattle.playback.proofs.text.put_text.Goals as goal

pub returns-in-Ok : goal.returns-in-Ok
returns-in-Ok c =
    let p = c.in-Ok.ensures in
    subst (λ t. Writes (placed t) c.args.writer.now c.put_pairs.result c.put_pairs.new.writer) (text_ran c.args.input.now p.0 p.1) (c.put_pairs.ensures p.0 p.4 p.2)

pub returns-in-Err : goal.returns-in-Err
returns-in-Err c =
    subst (λ t. Writes (placed t) c.args.writer.now c.put_refusal.result c.put_refusal.new.writer) (text_refused c.args.input.now _ c.in-Err.ensures) c.put_refusal.ensures
