-- No word of a block that is passed has the key.
use Prim.Native.Nat.{◌*◌, ◌/◌, ◌≤◌}
use mathlib.Core.Path.{◌≡◌, ap, ◌∙◌}
use native.Mathlib.Omega.{arith}
use Rattle.std.specs.Simd.{first_chunks}
use lib.ListN.{length}
use Rattle.std.specs.List.{list_any}
use Rattle.std.specs.Option.{unwrap_or}
use Rattle.std.proofs.Common.{rules, tests}
use Rattle.std.proofs.lemmas.Iterator.{YieldsList-from_slice}
use Rattle.std.proofs.lemmas.Iterator.Search.{position_from_yields_List}
use Rattle.keyparts.specs.View.{first_place, key_is}
use Rattle.keyparts.proofs.Finds.{place_or, blocks_before}
use Rattle.keyparts.proofs.edge.words_passed.Goals as goal

pub returns : goal.returns
returns c = let a = c.args in
    let e = position_from_yields_List (list_any (key_is a.key)) _ _ c.position-passed.result c.position-passed.ensures.ran (YieldsList-from_slice _ c.iter.ensures.rest) (λ x b q k. search (rules, tests)) in
    let passed : c.unwrap_or.result ≡ first_place (list_any (key_is a.key)) (first_chunks 8 (length a.words.now / 8) a.words.now)
    = rw (← c.as_chunks.ensures.front) (c.unwrap_or.ensures ∙ ap (λ r. unwrap_or r (length c.as_chunks.result.0.now)) e ∙ place_or (list_any (key_is a.key)) c.as_chunks.result.0.now) in
    let l : length a.words.now / 8 * 8 ≤ length a.words.now = omega arith in
    rw passed (blocks_before (key_is a.key) 8 (length a.words.now / 8) a.words.now l)
