-- A turn of the loop stores the code of the next part behind those that are there.
use mathlib.Core.Path.{refl, ap}
use Prim.Native.Nat.{◌<◌}
use native.Mathlib.Omega.{arith}
use lib.ListN.{length, length-take}
use Rattle.keptcalls.proofs.Packing.{codes_more, codes_all}
use Rattle.keptcalls.proofs.words.part_codes.Goals as goal

pub loop-place-init : goal.loop-place-init
loop-place-init c = (refl, refl)

pub loop-place-preserved : goal.loop-place-preserved
loop-place-preserved c = let l = c.loop-place in
    let h : l.place < 32 = omega (arith, c.loop-place-test.true, ap length c.front-there.ensures, length-take c.args.count c.args.parts.now, c.told-parts) in
    codes_more l.codes c.front-there.result.now l.place c.part_code.result _ l.invariant.0 h c.loop-place-test.true c.part_code.ensures l.invariant.1

pub returns : goal.returns
returns c = let l = c.loop-place in
    let e = codes_all l.codes c.front-there.result.now l.place c.loop-place.auto.place-end c.loop-place-test.false l.invariant.1 in
    (rw (← c.front-there.ensures) e, c.told-parts)
