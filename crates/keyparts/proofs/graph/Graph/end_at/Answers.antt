-- The end of the edge at the place, which is that of the searched edge, whatever number stands for its event.
use mathlib.Core.Path.{◌≡◌, ◌∙◌}
use mathlib.Core.Option.{some}
use Rattle.std.proofs.Common.{rules}
use Rattle.keyvalues.specs.View.{maybe_of}
use Rattle.keyparts.specs.View.{edge_words, end_of}
use Rattle.keyparts.proofs.Finds.{edge_coded}
use Rattle.keyparts.proofs.Links.{linked_coded}
use Rattle.keyparts.proofs.graph.Graph.end_at.Goals.{After-from_residual, After-to}
use Rattle.keyparts.proofs.graph.Graph.end_at.Goals as goal

missing : (c : After-from_residual) → maybe_of c.from_residual.result ≡ end_of (edge_words c.args.self.now) c.args.place
unfolding end_of
missing c = search rules

there : (c : After-to) → some c.to.result ≡ end_of (edge_words c.args.self.now) c.args.place
unfolding end_of
there c = search rules

pub returns-in_err-word-clause-scanned : goal.returns-in_err-word-clause-scanned
returns-in_err-word-clause-scanned c = let a = c.args in λ node code hn hi. missing (goal.at.returns-in_err-word-clause-scanned c).After-from_residual ∙ edge_coded a.self.now node code a.place hn hi

pub returns-in_err-word-clause-linked : goal.returns-in_err-word-clause-linked
returns-in_err-word-clause-linked c = let a = c.args in λ ls node code hn hi. missing (goal.at.returns-in_err-word-clause-linked c).After-from_residual ∙ linked_coded (edge_words a.self.now) ls node code a.place hn hi

pub returns-clause-scanned : goal.returns-clause-scanned
returns-clause-scanned c = let a = c.args in λ node code hn hi. there (goal.at.returns-clause-scanned c).After-to ∙ edge_coded a.self.now node code a.place hn hi

pub returns-clause-linked : goal.returns-clause-linked
returns-clause-linked c = let a = c.args in λ ls node code hn hi. there (goal.at.returns-clause-linked c).After-to ∙ linked_coded (edge_words a.self.now) ls node code a.place hn hi
