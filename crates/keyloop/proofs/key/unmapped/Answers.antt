-- A key that decomposes, or what is unmapped of the navigator; the navigator by links is the graph's there.
use Rattle.std.proofs.Common.{ap, ◌∙◌, ◌∷◌, [], ◌++◌, take, drop}
use borrow.Author.Tests.{le-leb, lt-leb}
use Rattle.rules.specs.KeyLoop.{after, clear_trail, unmapped}
use Rattle.rules.specs.Calls.{graph_navigator}
use Rattle.keyparts.specs.View.{graph_of}
use Rattle.keytables.specs.View.{tables_of}
use Rattle.keypairs.specs.View.{live_of}
use Rattle.keyloop.specs.Stack.{keys_of}
use Rattle.keyloop.proofs.Navigators.{beside, told_with, unmapped_same}
use Rattle.keyloop.proofs.key.unmapped.Goals as goal

pub returns-then-key-ge-COMPOSED : goal.returns-then-key-ge-COMPOSED
unfolding after
returns-then-key-ge-COMPOSED c = rw (le-leb 32768 c.args.key c.if-key-ge-COMPOSED.true, c.push-then-key-ge-COMPOSED.ensures, c.push.ensures, c.rest_of.ensures.0)

pub returns : goal.returns
unfolding after
returns c = let a = c.args in let T = tables_of a.map.now.tables.now in
    let left = c.unmapped_or_scratch.ensures (graph_of a.map.now.indexed.graph.now).edges ∙ ap (unmapped (graph_navigator (graph_of a.map.now.indexed.graph.now))) (c.clear_trail.ensures T) ∙ unmapped_same a.map.now.indexed.graph.now a.map.now.indexed.index.now (clear_trail (live_of T a.live.now)) in
    rw (lt-leb 32768 a.key c.if-key-ge-COMPOSED.false, c.put_back.ensures, c.on_trail.ensures.value)
    (told_with _ _ _ ∙ ap (beside (drop 1 (take a.live.now.state.trailed a.live.now.trail ++ (a.key ∷ [])) ++ keys_of a.stack.now)) left)
