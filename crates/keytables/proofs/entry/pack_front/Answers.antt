-- A turn of the loop stores the next entry's word.
use mathlib.Core.Path.{◌≡◌, subst}
use mathlib.Core.Bool.{true}
use native.Mathlib.Omega.{arith}
use Rattle.keytables.proofs.Packs.{packed_more}
use Rattle.keytables.proofs.entry.pack_front.Goals as goal

pub loop-place-init : goal.loop-place-init
loop-place-init g c i d w h = absurd (omega arith)

pub loop-place-preserved : goal.loop-place-preserved
loop-place-preserved g c = let l = c.loop-place in let x = c.index-entries-place in
    let e = subst (λ y. g.E.Entry.in_range y ≡ true → g.E.Entry.means c.pack.result y) x.is c.pack.ensures in
    packed_more g.E.Entry.in_range g.E.Entry.means c.args.entries.now l.words l.place c.pack.result x.result c.loop-place-test.true (omega (arith, l.auto.words, c.requires, c.loop-place-test.true)) e l.invariant

pub returns : goal.returns
returns g c i d w h v = c.loop-place.invariant i d w (omega (arith, h, c.loop-place-test.false)) v
