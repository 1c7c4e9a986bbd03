-- The heading was put within the bytes.
use Rattle.playback.proofs.Lined.{title}
use Rattle.playback.proofs.Putting.{put_within}
use Rattle.playback.proofs.text.put_pairs.Goals as goal

pub put_lines-requires : goal.put_lines-requires
put_lines-requires c = let w = c.args.writer.now in put_within title w.at w.bytes.now _ c.in_ok-put_bytes.ensures.writes.2
