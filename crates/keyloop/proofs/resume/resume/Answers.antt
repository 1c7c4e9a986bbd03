-- The trail leads to a place, which is come to; or it is emptied, and the root is.
use Rattle.std.proofs.Common.{ap, ◌∙◌, ℕ}
use Rattle.rules.specs.KeyLoop.{State, at}
use Rattle.keytables.specs.View.{tables_of}
use Rattle.keypairs.specs.View.{shared_of}
use Rattle.keyloop.proofs.Walks.{taken, given_up}
use Rattle.keyloop.proofs.resume.resume.Goals as goal

pub returns-in-Some : goal.returns-in-Some
returns-in-Some c = let a = c.args in let T = tables_of a.map.now.tables.now in
    taken _ _ (shared_of T a.live.now) _ c.root-root.ensures _ c.on_trail.ensures.value _ c.in-Some.ensures _ (c.come_to.ensures T)

pub returns-in-None : goal.returns-in-None
returns-in-None c = let a = c.args in let T = tables_of a.map.now.tables.now in
    given_up _ _ (shared_of T a.live.now) _ c.root-root.ensures _ c.on_trail.ensures.value c.in-None.ensures _
    (c.come_to-in-None.ensures T ∙ ap (λ (m : State ℕ). at c.root-root.result m.shared) (c.clear_trail.ensures T))
