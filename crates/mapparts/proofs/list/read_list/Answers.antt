-- Each turn reads one element of those that are left and keeps it behind the others.
use Prim.Native.Nat.{◌+◌, ◌≤◌}
use native.Mathlib.Omega.{arith}
use mathlib.Core.Path.{◌≡◌, sym, ap, subst, ◌∙◌}
use mathlib.Core.List.{map, ◌++◌}
use lib.ListN.{length, length-take, take, drop}
use Rattle.std.proofs.lemmas.List.{take-append-le}
use Rattle.rules.specs.Basics.{accept}
use Rattle.rules.specs.MapFile.{then_read, times}
use Rattle.mapparts.proofs.Reading.{Left, left_more, left_refused, left_none}
use Rattle.mapparts.proofs.Parts.{map_set}
use Rattle.mapparts.proofs.list.read_list.Goals as goal

pub returns-in_err-item-clause-reads : goal.returns-in_err-item-clause-reads
returns-in_err-item-clause-reads g c =
    let h = left_refused c.loop-item.invariant (omega (arith, length-take c.in_ok-count.count c.args.items.now)) c.in_err-item.ensures in
    grind (arith, h)

pub loop-item-preserved : goal.loop-item-preserved
loop-item-preserved g c =
    let i = c.loop-item.item-index in
    subst (λ xs. Left g.E.Listed.read c.in_ok-count.count (i + 1) xs c.up_to.new.self.rest.now c.read_from.new.reader.rest.now) (sym (map_set g.E.Listed.value c.loop-item.item-items i c.in_ok-item.field-0 (omega arith)))
    (left_more c.loop-item.invariant (omega (arith, length-take c.in_ok-count.count c.args.items.now)) c.in_ok-item.ensures)

pub returns-clause-reads : goal.returns-clause-reads
returns-clause-reads g c =
    let n = c.in_ok-count.count in
    let i = c.loop-item.item-index in
    let xs = c.loop-item.item-items in
    let t = length-take n c.args.items.now in
    let l : n ≤ length xs = omega (arith, t, c.in_ok-count.ensures.bound, c.requires) in
    let k : i ≡ n = omega (arith, t) in
    let e : take n (xs ++ drop n c.args.items.now) ≡ take i xs = take-append-le n xs (drop n c.args.items.now) l ∙ ap (λ j. take j xs) (sym k) in
    ap (λ l. accept (map g.E.Listed.value l, c.loop-item.reader.rest.now)) e
    ∙ left_none c.loop-item.invariant (omega arith)
    ∙ ap (λ m. then_read m (λ n. times n g.E.Listed.read)) c.in_ok-count.ensures.reads
