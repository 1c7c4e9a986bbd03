-- Document 02, request (v): the hint and the nodes that accepted calls made since fresh are 1,024 together. Why it is so: a node is
-- made in one place, behind those that are there and while they are fewer than 16 + 1,024; nothing but an open and a change of map,
-- which begin with a fresh graph, takes one away; and a refused call leaves the machine as it was.
use Rattle.std.specs.Prelude.{if◌then◌else◌}
use Prim.Native.Nat.{ℕ, ◌+◌, ◌-◌, ◌≤◌}
use native.Mathlib.Omega.{arith}
use mathlib.Core.Path.{◌≡◌, refl, ap}
use mathlib.Core.Bool.{Bool, true, false}
use mathlib.Core.List.{List, [], ◌∷◌}
use mathlib.Core.Logic.{◌↔◌}
use lib.Dec.{T, ltb}
use lib.ListN.{length}
use borrow.Author.Tests.{ltb-true, ltb-false}
use Rattle.rules.specs.Basics.{Result, refuse}
use Rattle.rules.specs.Values.{Binding}
use Rattle.rules.specs.Tables.{Tables}
use Rattle.rules.specs.Graph.{NodeAction, Graph, roots, fresh_graph, add_node}
use Rattle.rules.specs.Calls.{Machine, graph_kind, Call, Answer, fresh, bind, carry_over, settled, call, leaves, nodes_made, hint}
use Rattle.rules.proofs.Examples.{refusal_of}
use Rattle.rules.proofs.Tests.{by_cases}
use Rattle.rules.proofs.Runs.{is_refusal}
use Rattle.rules.proofs.Results.{Always, accepts, refuses, always_more}
use Rattle.rules.proofs.Grown.{NodesBetween, nodes_grow}
use Rattle.rules.proofs.Refusals.{open_always, bind_always, bind_all_always, change_always}
use Rattle.rules.proofs.Reached.{any_number, begins_anew, by_call}
use Rattle.rules.proofs.Facts.{refused_leaves_all}

-- How many nodes accepted calls made since fresh, where it was n before a call that is answered so: a refused call makes none; an
-- accepted open or change begins anew (`begins_anew`), with a fresh graph; and the call makes those that the graph has more then
abbrev pub made_after : (n : ℕ) → (anew : Bool) → Answer → (before after : Graph) → ℕ
made_after n anew x g g₁ = if is_refusal x then n else (if anew then length g₁.nodes - length fresh_graph.nodes else n + (length g₁.nodes - length g.nodes))

abbrev pub made_with : ℕ → Machine graph_kind → Call → ℕ
made_with n s c = let r = call graph_kind s c in made_after n (begins_anew c) r.1 s.bindings r.0.bindings

-- the same after a list of calls
abbrev pub made_since : ℕ → Machine graph_kind → List Call → ℕ
made_since n s [] = n
made_since n s (c ∷ cs) = made_since (made_with n s c) (call graph_kind s c).0 cs

-- The theorem: whatever calls were made from the fresh machine, refused ones among them, its graph has the 16 roots and the nodes
-- that accepted calls made, and these with the hint are 1,024. So they are at most that, and neither difference is cut off. A map
-- file that is read comes to calls like these: `read_by_calls` (RoundTrip)
pub hint_by_calls : (t : Tables) (cs : List Call) → let s = fresh graph_kind t in let g = (leaves graph_kind s cs).bindings in
    (length g.nodes ≡ 16 + made_since 0 s cs) × (hint g + made_since 0 s cs ≡ 1024)
unfolding nodes_made hint leaves settled fresh fresh_graph roots carry_over
hint_by_calls t cs =
    let h = after_all cs 0 (fresh graph_kind t) (refl, omega arith) in
    (h.0, omega (arith, h.0, h.1))
  where
    -- the roots and n nodes, of the 1,024 that may be made
    Counts : ℕ → Graph → Type 0
    Counts n g = (length g.nodes ≡ 16 + n) × (n ≤ 1024)

    CountsOn : ℕ → Graph → Bool → Graph → Answer → Type 0
    CountsOn n g a g₁ x = Counts (made_after n a x g g₁) g₁

    -- a call that begins with a fresh graph
    by_fresh : (n : ℕ) (s : Machine graph_kind) → Counts n s.bindings → {r : Result (Machine graph_kind)} → Always any_number (λ s₁. NodesBetween 16 s₁.bindings) r
        → let x = settled graph_kind s r in CountsOn n s.bindings true x.0.bindings x.1
    by_fresh n s h (accepts k) = (omega (arith, k.grown), omega (arith, k.room))
    by_fresh n s h (refuses m o) = h

    fresh_between : (t₁ : Tables) → NodesBetween 16 (fresh graph_kind t₁).bindings
    fresh_between t₁ = record { grown = omega arith; room = omega arith }

    binding_grows : (least : ℕ) (x : Binding) (s : Machine graph_kind) → NodesBetween least s.bindings → Always any_number (λ s₁. NodesBetween least s₁.bindings) (bind graph_kind x s)
    binding_grows least = bind_always tt tt tt tt tt (NodesBetween least) (nodes_grow least)

    there : (n : ℕ) (g : Graph) → Counts n g → NodesBetween (length g.nodes) g
    there n g h = record { grown = omega arith; room = omega (arith, h.0, h.1) }

    by_binding : (n : ℕ) (s : Machine graph_kind) → Counts n s.bindings → {r : Result (Machine graph_kind)} → Always any_number (λ s₁. NodesBetween (length s.bindings.nodes) s₁.bindings) r
        → let x = settled graph_kind s r in CountsOn n s.bindings false x.0.bindings x.1
    by_binding n s h (accepts k) = (omega (arith, h.0, k.grown), omega (arith, h.0, k.grown, k.room))
    by_binding n s h (refuses m o) = h

    -- a call that leaves the bindings
    by_other : (n : ℕ) (g g₁ : Graph) (x : Answer) → Counts n g → g₁ ≡ g → CountsOn n g false g₁ x
    by_other n g g₁ x h e = rw e (by_cases (is_refusal x) (λ b. rw b h) (λ b. rw b (omega (arith, h.0), omega (arith, h.1))))

    after_call : (n : ℕ) (s : Machine graph_kind) (c : Call) → Counts n s.bindings → Counts (made_with n s c) (call graph_kind s c).0.bindings
    after_call n s c h =
        let least = length s.bindings.nodes in
        by_call graph_kind (λ a r. CountsOn n s.bindings a r.0.bindings r.1) s
        (λ t₁. by_fresh n s h (always_more (λ s₁ e. rw e.0 (fresh_between t₁)) (open_always graph_kind tt t₁)))
        (λ t₁ xs. by_fresh n s h (change_always graph_kind tt (λ s₁. NodesBetween 16 s₁.bindings) t₁ xs s (λ v. bind_all_always graph_kind (λ s₁. NodesBetween 16 s₁.bindings) (binding_grows 16) xs (fresh graph_kind t₁) (fresh_between t₁))))
        (λ x. by_binding n s h (binding_grows least x s (there n s.bindings h)))
        (λ s₁ x m. by_other n s.bindings s₁.bindings x h m.bindings)
        c

    after_all : (cs : List Call) (n : ℕ) (s : Machine graph_kind) → Counts n s.bindings → Counts (made_since n s cs) (leaves graph_kind s cs).bindings
    after_all [] n s h = h
    after_all (c ∷ cs) n s h = after_all cs (made_with n s c) (call graph_kind s c).0 (after_call n s c h)

-- a refused call leaves the hint as it was
pub refused_leaves_hint : (s : Machine graph_kind) (c : Call) → T (is_refusal (call graph_kind s c).1) → hint (call graph_kind s c).0.bindings ≡ hint s.bindings
refused_leaves_hint s c h = ap (λ x. hint x.bindings) (refused_leaves_all graph_kind s c h)

-- a further node is refused with 2 exactly where the hint is 0
pub none_left : (mode : ℕ) (x : NodeAction) (g : Graph) → (add_node mode x g ≡ refuse 2) ↔ (hint g ≡ 0)
unfolding add_node nodes_made hint
none_left mode x g =
    let n = length g.nodes in
    by_cases (ltb n 1040)
    (λ b. (λ e. absurd (omega (arith, ap refusal_of (rw b at e))), λ z. absurd (omega (arith, z, ltb-true n 1040 b))))
    (λ b. (λ e. omega (arith, ltb-false n 1040 b), λ z. rw b refl))
