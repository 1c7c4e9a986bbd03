-- The loop keeps: what is still to be put, from the page so far, comes to what all pairs come to.
use native.Mathlib.Omega.{arith}
use mathlib.Core.Path.{◌≡◌, refl, sym, ◌∙◌}
use mathlib.Core.List.{map}
use Rattle.rules.specs.Basics.{refuse}
use Rattle.keyvalues.specs.View.{number_of}
use Rattle.keypairs.specs.View.{pair_of}
use Rattle.mapparts.specs.View.{page_of, put_all}
use Rattle.mapparts.proofs.Writing.{each_none, each_more, each_stop}
use Rattle.mapfile.specs.View.{numbers_of, pair_numbers}
use Rattle.mapfile.proofs.pairs.put_pairs.Goals as goal

pub returns-in_err-put_pair : goal.returns-in_err-put_pair
returns-in_err-put_pair c =
    let L = c.loop-word in
    let h : refuse (number_of c.in_err-put_pair.field-0.0) ≡ put_all (pair_numbers (map pair_of c.args.words.now)) (page_of c.args.writer.now)
    = each_stop numbers_of pair_of c.args.words.now L.word-index 0 _ c.loop-word-test.true refl _ _ c.in_err-put_pair.ensures.2 ∙ L.invariant.left in
    grind (arith, h)

pub loop-word-preserved : goal.loop-word-preserved
loop-word-preserved c =
    let L = c.loop-word in
    let e = c.in_ok-put_pair.ensures in
    record {
      name = e.0 ∙ L.invariant.name;
      long = e.1 ∙ L.invariant.long;
      left = each_more numbers_of pair_of c.args.words.now L.word-index 0 _ c.loop-word-test.true refl _ _ e.2 ∙ L.invariant.left;
    }

pub returns : goal.returns
returns c =
    let L = c.loop-word in
    (L.invariant.name, L.invariant.long, sym (each_none numbers_of pair_of c.args.words.now L.word-index _ c.loop-word-test.false) ∙ L.invariant.left)
