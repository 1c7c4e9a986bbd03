-- The index leads as the graph's edges do, so the walk by its links is the graph's.
use Rattle.std.proofs.Common.{ap, ◌∙◌, ℕ}
use Rattle.rules.specs.KeyLoop.{Navigator, resume}
use Rattle.keytables.specs.View.{tables_of}
use Rattle.keypairs.specs.View.{shared_of}
use Rattle.keyloop.proofs.Navigators.{index_leads}
use Rattle.keymachine.proofs.live.resume.Goals as goal

pub returns : goal.returns
returns c = let a = c.args in
    c.resume.ensures ∙ ap (λ (nav : Navigator ℕ). resume nav (shared_of (tables_of a.tables.now) a.live.now)) (index_leads a.graph.now c.new.result c.new.ensures)
