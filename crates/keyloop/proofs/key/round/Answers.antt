-- The turn, with the event hook, and then what it came to; or the hook's refusal.
use Rattle.std.proofs.Common.{ap, ◌∙◌, length, arith}
use Rattle.std.proofs.lemmas.Result.{err_from_is_err_and}
use Rattle.keytables.specs.View.{tables_of}
use Rattle.keypairs.specs.View.{shared_of}
use Rattle.keyloop.specs.View.{navigator_of, turn_of}
use Rattle.keyloop.proofs.Loop.{round_is, round_refused}
use Rattle.keyloop.proofs.Weighed.{turned_trail}
use Rattle.keyloop.proofs.key.round.Goals as goal

pub returns-in_err-input_result : goal.returns-in_err-input_result
returns-in_err-input_result c = let p = err_from_is_err_and c.from_residual.result c.from_residual.ensures.1 in
    rw (p.1, p.2) (round_refused (navigator_of c.args.map.now) c.args.key _ _ _ c.in_err-input_result.ensures)

pub after-requires : goal.after-requires
after-requires c = let a = c.args in
    let e = turned_trail (turn_of a.map.now a.key a.live.now) a.key (shared_of (tables_of a.map.now.tables.now) a.live.now) _ _ c.in_ok-input_result.ensures in
    (c.requires.0, omega (arith, ap length e, c.requires.1))

pub returns : goal.returns
returns c = c.after.ensures ∙ round_is (navigator_of c.args.map.now) c.args.key _ _ _ _ c.in_ok-input_result.ensures
