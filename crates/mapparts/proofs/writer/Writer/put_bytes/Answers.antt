-- What fits is laid.
use Prim.Native.Nat.{◌+◌, ◌-◌}
use native.Mathlib.Omega.{arith}
use mathlib.Core.Path.{◌≡◌, refl}
use lib.ListN.{length}
use Rattle.mapparts.proofs.Writing.{fits, mid_laid, length-laid}
use Rattle.mapparts.proofs.writer.Writer.put_bytes.Goals as goal

pub returns-clause-writes : goal.returns-clause-writes
returns-clause-writes c =
    let at = c.args.self.now.at in
    let bs = c.args.bytes.now in
    let out = c.args.self.now.bytes.now in
    let e : at + length bs - at ≡ length bs = omega arith in
    rw (e, c.copy_from_slice.ensures.after, mid_laid at bs out) (refl, length-laid at bs out (omega arith), fits bs at out (omega arith))
