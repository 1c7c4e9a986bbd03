-- The place in the rest is what the search in it told.
use mathlib.Core.Path.{ap, ◌∙◌}
use Prim.Native.Nat.{ℕ, ◌+◌, ◌-◌}
use lib.ListN.{length, take, drop}
use Rattle.std.specs.Option.{unwrap_or}
use Rattle.std.proofs.Common.{rules, tests}
use Rattle.std.proofs.lemmas.Iterator.{YieldsList-from_slice}
use Rattle.std.proofs.lemmas.Iterator.Search.{position_from_yields_List}
use Rattle.keyparts.specs.View.{key_is}
use Rattle.keyparts.proofs.Finds.{place_or, first_in_rest}
use Rattle.keyparts.proofs.edge.scan.Goals as goal

pub returns : goal.returns
unfolding key_is
returns c = let a = c.args in let n = c.words_passed-passed.result in
    let rest = take (length a.words.now - n) (drop n a.words.now) in
    let e = position_from_yields_List (key_is a.key) _ _ c.position-place.result c.position-place.ensures.ran (YieldsList-from_slice rest c.iter.ensures.rest) (λ x b q k. search (rules, tests)) in
    ap (λ (i : ℕ). n + i) (c.unwrap_or.ensures ∙ ap (λ r. unwrap_or r (length rest)) e ∙ place_or (key_is a.key) rest) ∙ first_in_rest (key_is a.key) n a.words.now c.words_passed-passed.ensures
