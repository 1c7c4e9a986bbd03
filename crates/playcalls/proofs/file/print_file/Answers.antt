-- A number of 16 bits is no more than the output's length.
use Prim.Native.Nat.{ℕ}
use native.Mathlib.Omega.{arith}
use mathlib.Core.Path.{sym}
use lib.ListN.{replicate, length-replicate}
use lib.Seq.{length-take-le}
use Rattle.playcalls.proofs.file.print_file.Goals as goal

pub slice_bounds-print_written-end : goal.slice_bounds-print_written-end
slice_bounds-print_written-end g c =
    sym (length-take-le c.args.room (replicate 65535 0) (omega (arith, length-replicate {A = ℕ} 65535 0)))
