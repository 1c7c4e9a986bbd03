-- The navigator that goes by the links of an index. Where the index is one of the graph, it is the graph's navigator. And with any
-- links, what gives and enters is the same for both, since that only asks a navigator for roots and modes.
use Prim.Native.Nat.{ℕ}
use mathlib.Core.Path.{◌≡◌, refl, ap, ◌∙◌, fun_ext}
use mathlib.Core.List.{List}
use Rattle.rules.specs.Values.{Step}
use Rattle.rules.specs.Tables.{ClassEntry}
use Rattle.std.specs.Prelude
use Rattle.std.specs.Prelude.{Ok, Err}
use Rattle.rules.specs.Basics.{Result, accept, ◌>>=◌}
use Rattle.keyvalues.specs.declared.refusal.Refusal.{Refusal}
use Rattle.keyvalues.specs.View.{told}
use Rattle.rules.specs.KeyLoop.{State, clear_trail, Turn, Navigator, goto_mode, unmapped, step_to, step}
use Rattle.rules.specs.Graph.{get_node}
use Rattle.rules.specs.Calls.{graph_navigator, turn_by}
use Rattle.keyparts.specs.View.{edge_words, graph_of, Indexed}
use Rattle.keyparts.specs.declared.graph.Graph.{Graph}
use Rattle.keyparts.specs.declared.index.Index.{Index}
use Rattle.keyparts.proofs.Links.{index_follow}
use Rattle.keyloop.specs.View.{link_navigator}

-- keys beside what a call comes to
abbrev pub beside : List ℕ → Result (State ℕ) → Result (List ℕ × State ℕ)
beside ks r = r >>= λ u. accept (ks, u)

pub told_with : (r : Prelude.Result (Unit {0}) Refusal) (ks : List ℕ) (m : State ℕ) → told {B = List ℕ × State ℕ} (λ _. (ks, m)) r ≡ beside ks (told (λ _. m) r)
told_with (Ok u) ks m = refl
told_with (Err e) ks m = refl

module _ (gr : Graph) (ix : Index) where
  -- an index of the edges
  pub index_leads : Indexed (edge_words gr) ix.links → link_navigator gr ix ≡ graph_navigator (graph_of gr)
  unfolding link_navigator graph_navigator
  index_leads h = ap by (fun_ext (λ cs. fun_ext (λ n. fun_ext (λ key. ap (turn_by (graph_of gr) n) (index_follow gr ix.links h cs n key)))))
    where
      by : (List ClassEntry → ℕ → ℕ → Turn ℕ) → Navigator ℕ
      by f = record { turn = f; root = λ m. m; mode_of = λ n. (get_node (graph_of gr) n).mode }

  step_same : (s : Step) (m : State ℕ) → step (graph_navigator (graph_of gr)) s m ≡ step (link_navigator gr ix) s m
  unfolding step step_to goto_mode graph_navigator link_navigator
  step_same s m = refl

  pub unmapped_same : (m : State ℕ) → unmapped (graph_navigator (graph_of gr)) m ≡ unmapped (link_navigator gr ix) m
  unfolding unmapped goto_mode graph_navigator link_navigator
  unmapped_same m = refl

  -- a step with no trail, beside keys
  pub stepped : (s : Step) (r : Prelude.Result (Unit {0}) Refusal) (x m₁ m : State ℕ) (ks : List ℕ) → told (λ _. x) r ≡ step (graph_navigator (graph_of gr)) s m₁ → m₁ ≡ clear_trail m
      → told {B = List ℕ × State ℕ} (λ _. (ks, x)) r ≡ beside ks (step (link_navigator gr ix) s (clear_trail m))
  stepped s r x m₁ m ks e is = told_with r ks x ∙ ap (beside ks) (e ∙ ap (step (graph_navigator (graph_of gr)) s) is ∙ step_same s (clear_trail m))
