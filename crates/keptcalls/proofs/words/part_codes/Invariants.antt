-- The codes so far are those of the parts so far.
use mathlib.Core.Path.{◌≡◌}
use mathlib.Core.List.{map}
use lib.ListN.{length, take}
use Rattle.keyvalues.specs.View.{part_of}
use Rattle.keptcalls.specs.View.{cut_part, parts_in}
use Rattle.keptcalls.proofs.words.part_codes.Given as goal

abbrev pub invariant-loop-place : goal.invariant-loop-place
invariant-loop-place l =
    (length l.codes ≡ 32) × (take l.place (parts_in l.codes) ≡ map cut_part (map part_of (take l.place l.there)))
