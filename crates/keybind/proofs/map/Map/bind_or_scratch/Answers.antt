-- What the graph accepts is in range, and then the rules' keeping is what is left of the call.
use borrow.Author.Rules.{rules}
use Rattle.keyparts.specs.View.{graph_of}
use Rattle.keptcalls.specs.View.{binding_in, kept_in}
use Rattle.keybind.proofs.Kept.{bind_kept}
use Rattle.keybind.proofs.map.Map.bind_or_scratch.Goals as goal

pub returns-in_err-self-clause-bound : goal.returns-in_err-self-clause-bound
returns-in_err-self-clause-bound c x = let m = c.args.self.now in
    let h = bind_kept (binding_in c.args.call.now) (graph_of m.graph) (kept_in m.kept c.args.kept.now) x _ c.in_ok-add_or_scratch.ensures _ (c.in_err-self.ensures.keeps (graph_of m.graph) _ x) in
    search rules

pub returns-clause-bound : goal.returns-clause-bound
returns-clause-bound c x = let m = c.args.self.now in
    let h = bind_kept (binding_in c.args.call.now) (graph_of m.graph) (kept_in m.kept c.args.kept.now) x _ c.in_ok-add_or_scratch.ensures _ (c.in_ok-self.ensures.keeps (graph_of m.graph) _ x) in
    search rules
