-- What was read is the input that is answered.
use Rattle.playback.specs.View.{Answered}
use Rattle.playback.proofs.Serving.{served}
use Rattle.playback.proofs.program.serve.Goals as goal

pub returns : goal.returns
returns g c = served c.flush.result _ c.args.most c.in_ok-input.input.items (Answered g.F.FnOnce c.args.answer) (record { out = _; input = _; shows = c.deref.ensures.value; left = _; called = c.in_ok-answer.ensures }) c.in_ok-input.ensures.bytes
