-- Putting the lines of the pairs that are left puts those of all.
use Prim.Native.Nat.{◌≤◌}
use mathlib.Core.Path.{◌≡◌}
use mathlib.Core.List.{List}
use lib.ListN.{length}
use Rattle.std.specs.List.{All}
use Rattle.rules.specs.Values.{Pair}
use Rattle.rules.specs.Run.{pair_bytes}
use Rattle.mapparts.specs.View.{page_of}
use Rattle.mapfile.specs.View.{Small}
use Rattle.playback.proofs.Finding.{Left}
use Rattle.playback.proofs.lines.put_lines.Given as goal

abbrev pub invariant-loop-reader : goal.invariant-loop-reader
invariant-loop-reader l = record {
  same : l.writer.bytes.ghost_name ≡ l.initial.writer.bytes.ghost_name;
  long : length l.writer.bytes.now ≡ length l.initial.writer.bytes.now;
  within : l.writer.at ≤ length l.writer.bytes.now;
  left : (ps : List Pair) → l.bytes ≡ pair_bytes ps → All Small ps → Left ps (page_of l.initial.writer) l.reader.rest.now (page_of l.writer);
}

abbrev pub decreases-loop-reader : goal.decreases-loop-reader
decreases-loop-reader l = length l.reader.rest.now
