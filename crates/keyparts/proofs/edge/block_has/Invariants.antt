-- Met is whether one of the words so far has the key.
use lib.ListN.{take}
use mathlib.Core.Path.{◌≡◌}
use Rattle.std.specs.List.{list_any}
use Rattle.keyparts.specs.View.{key_is}
use Rattle.keyparts.proofs.edge.block_has.Given as goal

abbrev pub invariant-loop-word : goal.invariant-loop-word
invariant-loop-word l = l.met ≡ list_any (key_is l.key) (take l.word-index l.block)
