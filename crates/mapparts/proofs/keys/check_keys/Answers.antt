-- A number more that was read leaves what is told of the others, and each takes a byte.
use native.Mathlib.Omega.{arith}
use mathlib.Core.List.{[]}
use Rattle.std.specs.Prelude.{Ok}
use Rattle.mapparts.proofs.KeyBytes.{shorter, checked_more, keys_none, key_bad}
use Rattle.mapparts.proofs.keys.check_keys.Goals as goal

pub loop-keys-smaller : goal.loop-keys-smaller
loop-keys-smaller c = shorter _ _ _ c.in_ok-number.ensures.reads

pub loop-keys-preserved : goal.loop-keys-preserved
loop-keys-preserved c = λ b h. c.loop-keys.invariant b (checked_more _ _ _ c.in_ok-number.ensures.reads b h)

pub returns-in_err-number : goal.returns-in_err-number
returns-in_err-number c = c.loop-keys.invariant _ (let z = key_bad _ _ (λ e. grind arith) c.in_err-number.ensures.reads in grind (arith, z))

pub returns : goal.returns
returns c = c.loop-keys.invariant (Ok tt) ([], keys_none _ (grind arith))
