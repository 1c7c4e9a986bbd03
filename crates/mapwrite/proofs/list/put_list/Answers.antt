-- The loop keeps: what is still to be put, from the page so far, comes to what the whole list comes to.
use native.Mathlib.Omega.{arith}
use mathlib.Core.Path.{◌≡◌, sym, ap, ◌∙◌}
use mathlib.Core.List.{map}
use lib.ListN.{take}
use Rattle.rules.specs.Basics.{refuse}
use Rattle.rules.specs.Writing.{listed}
use Rattle.keyvalues.specs.View.{number_of}
use Rattle.mapparts.specs.View.{page_of, put_all}
use Rattle.mapparts.proofs.Writing.{each_none, each_more, each_stop}
use Rattle.mapwrite.proofs.Lists.{count_more, count_stop, short_none, short_more, short_all}
use Rattle.mapwrite.proofs.list.put_list.Goals as goal

pub returns-in_err-put : goal.returns-in_err-put
returns-in_err-put g c =
    let w = g.E.Written.numbers in
    let v = g.E.Written.value in
    let p = page_of c.args.writer.now in
    let h : refuse (number_of c.in_err-put.field-0.0) ≡ put_all (listed w (map v (take c.args.count c.args.items.now))) p
    = count_stop w v c.front-there.result.now p _ c.in_err-put.ensures.writes.2 ∙ ap (λ xs. put_all (listed w (map v xs)) p) c.front-there.ensures in
    grind (arith, h)

pub loop-item-init : goal.loop-item-init
loop-item-init g c =
    let e = c.in_ok-put.ensures.writes in
    record { name = e.0; long = e.1; short = short_none g.E.Written.numbers g.E.Written.value g.E.Written.most c.front-there.result.now; left = count_more g.E.Written.numbers g.E.Written.value c.front-there.result.now _ _ e.2 }

pub returns-in_err-write_to : goal.returns-in_err-write_to
returns-in_err-write_to g c =
    let w = g.E.Written.numbers in
    let v = g.E.Written.value in
    let L = c.loop-item in
    let p = page_of c.args.writer.now in
    let h : refuse (number_of c.in_err-write_to.field-0.0) ≡ put_all (listed w (map v (take c.args.count c.args.items.now))) p
    = each_stop w v c.front-there.result.now L.item-index _ _ c.loop-item-test.true (sym c.item-item.is) _ _ c.in_err-write_to.ensures.writes.2 ∙ L.invariant.left ∙ ap (λ xs. put_all (listed w (map v xs)) p) c.front-there.ensures in
    grind (arith, h)

pub loop-item-preserved : goal.loop-item-preserved
loop-item-preserved g c =
    let L = c.loop-item in
    let e = c.in_ok-write_to.ensures.writes in
    record {
      name = e.0 ∙ L.invariant.name;
      long = e.1 ∙ L.invariant.long;
      short = short_more g.E.Written.numbers g.E.Written.value g.E.Written.most c.front-there.result.now L.item-index _ _ c.loop-item-test.true (sym c.item-item.is) c.in_ok-write_to.ensures.few L.invariant.short;
      left = each_more g.E.Written.numbers g.E.Written.value c.front-there.result.now L.item-index _ _ c.loop-item-test.true (sym c.item-item.is) _ _ e.2 ∙ L.invariant.left;
    }

pub returns-clause-writes : goal.returns-clause-writes
returns-clause-writes g c =
    let w = g.E.Written.numbers in
    let v = g.E.Written.value in
    let L = c.loop-item in
    (L.invariant.name, L.invariant.long, sym (each_none w v c.front-there.result.now L.item-index _ c.loop-item-test.false) ∙ L.invariant.left ∙ ap (λ xs. put_all (listed w (map v xs)) (page_of c.args.writer.now)) c.front-there.ensures)

pub returns-clause-few : goal.returns-clause-few
returns-clause-few g c =
    let L = c.loop-item in
    let s = short_all g.E.Written.numbers g.E.Written.value g.E.Written.most c.front-there.result.now L.item-index L.auto.item-index-end c.loop-item-test.false L.invariant.short in
    rw (← c.front-there.ensures) s
