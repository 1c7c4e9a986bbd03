-- Each arm is a clause of the rules' `after`.
use Rattle.std.proofs.Common.{refl, ap, ◌∙◌}
use Rattle.rules.specs.KeyLoop.{after}
use Rattle.keyvalues.specs.View.{step_of}
use Rattle.keyvalues.proofs.Settled.{settled_told}
use Rattle.keyparts.specs.View.{graph_of}
use Rattle.keytables.specs.View.{tables_of}
use Rattle.keypairs.specs.View.{live_of}
use Rattle.keyloop.specs.Stack.{keys_of}
use Rattle.keyloop.specs.View.{navigator_of}
use Rattle.keyloop.proofs.Loop.{needs_more}
use Rattle.keyloop.proofs.Navigators.{beside, told_with, stepped}
use Rattle.keyloop.proofs.key.after.Goals as goal

pub returns-in-ClearTrail : goal.returns-in-ClearTrail
unfolding after
returns-in-ClearTrail c = rw (c.in-ClearTrail.is, c.push-in-ClearTrail.ensures, c.clear_trail.ensures (tables_of c.args.map.now.tables.now)) refl

pub returns-in-Consumed : goal.returns-in-Consumed
unfolding after
returns-in-Consumed c = rw (c.in-Consumed.is, c.clear_trail-in-Consumed.ensures (tables_of c.args.map.now.tables.now)) refl

pub returns-in-NeedMore : goal.returns-in-NeedMore
returns-in-NeedMore c = let a = c.args in let ks = keys_of a.stack.now in
    rw c.in-NeedMore.is (told_with _ ks _ ∙ ap (beside ks) (settled_told _ _ _ _ (c.join_trail.ensures (tables_of a.map.now.tables.now))) ∙ needs_more (navigator_of a.map.now) a.key ks _)

pub returns-in-RunStep : goal.returns-in-RunStep
unfolding after
returns-in-RunStep c = let ix = c.args.map.now.indexed in let T = tables_of c.args.map.now.tables.now in
    rw c.in-RunStep.is (stepped ix.graph.now ix.index.now (step_of c.in-RunStep.step) _ _ _ (live_of T c.args.live.now) _ (c.step_or_scratch.ensures (graph_of ix.graph.now)) (c.clear_trail-in-RunStep.ensures T))

pub returns-in-RetryAfter : goal.returns-in-RetryAfter
unfolding after
returns-in-RetryAfter c = let ix = c.args.map.now.indexed in let T = tables_of c.args.map.now.tables.now in
    rw (c.in-RetryAfter.is, c.push-in-RetryAfter.ensures) (stepped ix.graph.now ix.index.now (step_of c.in-RetryAfter.step) _ _ _ (live_of T c.args.live.now) _ (c.step_or_scratch-in-RetryAfter.ensures (graph_of ix.graph.now)) (c.clear_trail-in-RetryAfter.ensures T))
