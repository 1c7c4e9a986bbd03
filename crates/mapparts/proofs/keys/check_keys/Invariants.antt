-- What is told of the keys that are left is so of all, and each takes a byte.
use lib.ListN.{length}
use Rattle.rules.specs.Run.{read_keys}
use Rattle.std.specs.Prelude as Prelude
use Rattle.keyvalues.specs.declared.refusal.Refusal.{Refusal}
use Rattle.mapparts.specs.View.{Checked}
use Rattle.mapparts.proofs.keys.check_keys.Given as goal

abbrev pub invariant-loop-keys : goal.invariant-loop-keys
invariant-loop-keys l = (b : Prelude.Result (Unit {0}) Refusal) → Checked b (read_keys l.keys.rest.now) → Checked b (read_keys l.bytes)

abbrev pub decreases-loop-keys : goal.decreases-loop-keys
decreases-loop-keys l = length l.keys.rest.now
