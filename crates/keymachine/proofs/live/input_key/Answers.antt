-- The index leads as the graph's edges do, so the key in place comes to what `input_key` says of the graph; accepted, its copy
-- becomes the live state, and refused, nothing does.
use Rattle.std.proofs.Common.{◌≡◌, ap, ◌∙◌, ℕ}
use Rattle.rules.specs.KeyLoop.{State, Navigator, Input, input_key}
use Rattle.rules.specs.Calls.{graph_navigator}
use Rattle.keyparts.specs.declared.graph.Graph.{Graph}
use Rattle.keyparts.specs.declared.index.Index.{Index}
use Rattle.keyparts.specs.View.{graph_of, edge_words, Indexed}
use Rattle.keytables.specs.View.{tables_of}
use Rattle.keypairs.specs.View.{machine_by}
use Rattle.keyloop.specs.View.{link_navigator}
use Rattle.keyloop.proofs.Navigators.{index_leads}
use Rattle.keymachine.proofs.Calls.{press_done, press_refused}
use Rattle.keymachine.proofs.live.input_key.Goals as goal

-- a key by the links of an index of the graph
leads : (gr : Graph) (ix : Index) (i : Input) (m : State ℕ) → Indexed (edge_words gr) ix.links → input_key (link_navigator gr ix) i m ≡ input_key (graph_navigator (graph_of gr)) i m
leads gr ix i m h = ap (λ (nav : Navigator ℕ). input_key nav i m) (index_leads gr ix h)

pub returns-then-is_ok : goal.returns-then-is_ok
returns-then-is_ok c ks = let a = c.args in let m = machine_by (graph_of a.graph.now) ks (tables_of a.tables.now) a.live.now in let r = c.input_key_or_scratch-pressed in
    press_done m _ _ _ r.result.1 (r.ensures ∙ leads a.graph.now c.new-index.result _ m.state c.new-index.ensures) c.if-is_ok.ensures.value

pub returns-else-is_ok : goal.returns-else-is_ok
returns-else-is_ok c ks = let a = c.args in let m = machine_by (graph_of a.graph.now) ks (tables_of a.tables.now) a.live.now in let r = c.input_key_or_scratch-pressed in
    press_refused m _ _ _ r.result.1 (r.ensures ∙ leads a.graph.now c.new-index.result _ m.state c.new-index.ensures) c.if-is_ok.ensures.value
