-- The loop keeps: what is left to read, from the machine so far, comes to what the whole comes to.
use mathlib.Core.Path.{◌∙◌}
use borrow.Author.Rules.{rules}
use Rattle.mapfile.proofs.Bindings.{one_more, no_more, none_left}
use Rattle.mapfile.proofs.bind.read_bindings_or_scratch.Goals as goal

pub returns-in_err-read_binding_or_scratch-clause-bound : goal.returns-in_err-read_binding_or_scratch-clause-bound
returns-in_err-read_binding_or_scratch-clause-bound c x =
    let L = c.loop in
    let h = no_more c.args.n L.counter _ _ c.loop-test.true _ (c.in_err-read_binding_or_scratch.ensures.bound x) ∙ L.invariant.left x in
    search rules

pub loop-preserved : goal.loop-preserved
loop-preserved c =
    let L = c.loop in
    let e = c.in_ok-read_binding_or_scratch.ensures in
    record { tables = e.tables ∙ L.invariant.tables; left = λ x. one_more c.args.n L.counter _ _ c.loop-test.true _ _ (e.bound x) ∙ L.invariant.left x }

pub returns-clause-bound : goal.returns-clause-bound
returns-clause-bound c x = none_left c.args.n c.loop.counter _ _ c.loop-test.false ∙ c.loop.invariant.left x
