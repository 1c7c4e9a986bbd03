-- Walking a trail is walking its keys one by one: the first, and then the others from where it led. A key leads to what following
-- comes to, without the event hook; and no fallthrough needs more.
use Prim.Native.Nat.{ℕ, suc, ◌+◌, ◌≤◌, ◌<◌}
use mathlib.Core.Path.{◌≡◌, refl, ap, ap₂, ◌∙◌}
use mathlib.Core.Bool.{Bool, true, false}
use mathlib.Core.Option.{Option, none, some}
use mathlib.Core.List.{List, [], ◌∷◌}
use native.Mathlib.Numerals.{add-one}
use lib.ListN.{length, get_or, drop, drop_of_length-le}
use lib.Seq.{drop-cons}
use Rattle.std.specs.Prelude.{if◌then◌else◌}
use Rattle.std.proofs.Math.Option.{bind}
use Rattle.std.specs.Bool.{then_some}
use Rattle.keyvalues.specs.View.{maybe_of}
use Rattle.rules.specs.Values.{Event}
use Rattle.rules.specs.Tables.{ClassEntry}
use Rattle.rules.specs.Graph as g
use Rattle.rules.specs.Graph.{NodeAction, Empty, Root, Holds, get_node, Successor, FallsTo, NoSuccessor}
use Rattle.rules.specs.KeyLoop.{Shared, with_trail, InputResult, Navigator, State, at, needs_more, walk, walked, resume}
use Rattle.rules.specs.Calls.{arrive, land, turn_by}
use Rattle.keyparts.specs.declared.graph.Graph.{Graph}
use Rattle.keyparts.specs.declared.index.Index.{Index}
use Rattle.keyparts.specs.View.{graph_of, edge_words, follow_links}
use Rattle.keyloop.specs.View.{link_navigator}
use Rattle.keyloop.proofs.Turns.{arrive_is}

-- ---- one key

-- cs' is the class table, as the code reads it
module _ (gr : Graph) (ix : Index) (n k : ℕ) (cs cs' : List ClassEntry) (same : cs' ≡ cs) where
  abbrev Walked : Option ℕ → Type 0
  Walked o = o ≡ walk (link_navigator gr ix) cs (k ∷ []) n

  pub nowhere : NoSuccessor ≡ follow_links cs' (edge_words gr) ix.links n k → Walked none
  unfolding walk needs_more link_navigator turn_by
  nowhere by = rw (← same, ← by) refl

  pub falls : (to : ℕ) → FallsTo to ≡ follow_links cs' (edge_words gr) ix.links n k → Walked none
  unfolding walk needs_more link_navigator turn_by land
  falls to by = rw (← same, ← by) (go (get_node (graph_of gr) to).action)
    where
      go : (a : NodeAction) → none ≡ (if needs_more (land to a).result then some (land to a).place else none)
      go Empty = refl
      go Root = refl
      go (Holds s) = refl

  pub leads : (to : ℕ) (ev : Event) → Successor ev to ≡ follow_links cs' (edge_words gr) ix.links n k → (nd : g.Node) → nd ≡ get_node (graph_of gr) to
      → (x : InputResult) → x ≡ (arrive (graph_of gr) to ev nd.action).result → Walked (maybe_of (then_some (needs_more x) to))
  unfolding walk link_navigator turn_by
  leads to ev by nd en x ex = rw (← same, ← by, ← en, ex, arrive_is (graph_of gr) to ev nd.action) (go (needs_more (arrive (graph_of gr) to ev nd.action).result))
    where
      go : (b : Bool) → maybe_of (then_some b to) ≡ (if b then some to else none)
      go true = refl
      go false = refl

-- ---- all keys

module _ (nav : Navigator ℕ) (cs : List ClassEntry) where
  -- the first key, and then the others from where it led
  walk_cons : (k : ℕ) (ks : List ℕ) (p : ℕ) → walk nav cs (k ∷ ks) p ≡ bind (walk nav cs (k ∷ []) p) (walk nav cs ks)
  unfolding walk bind
  walk_cons k ks p = go (needs_more (nav.turn cs p k).result)
    where
      go : (b : Bool) → let q = (nav.turn cs p k).place in (if b then walk nav cs ks q else none) ≡ bind (if b then some q else none) (walk nav cs ks)
      go true = refl
      go false = refl

  module _ (ks : List ℕ) (i p : ℕ) where
    -- one key more, which leads to a place
    pub walked_on : i < length ks → (q : ℕ) → some q ≡ walk nav cs (get_or ks i 0 ∷ []) p → walk nav cs (drop (i + 1) ks) q ≡ walk nav cs (drop i ks) p
    unfolding bind
    walked_on h q e = rw (drop-cons ks i 0 h, add-one, walk_cons (get_or ks i 0) (drop (suc i) ks) p, ← e) refl

    -- or to none
    pub lost : i < length ks → none ≡ walk nav cs (get_or ks i 0 ∷ []) p → none ≡ walk nav cs (drop i ks) p
    unfolding bind
    lost h e = rw (drop-cons ks i 0 h, walk_cons (get_or ks i 0) (drop (suc i) ks) p, ← e) refl

    pub walked_all : length ks ≤ i → some p ≡ walk nav cs (drop i ks) p
    unfolding walk
    walked_all h = rw (drop_of_length-le ks h)

-- ---- the trail

-- root and ks are the root of the entered mode and the trail, as the code reads them
module _ (gr : Graph) (ix : Index) (c : Shared) (root : ℕ) (at_root : root ≡ c.mode) (ks : List ℕ) (trail : ks ≡ c.trail) where
  abbrev nav : Navigator ℕ
  nav = link_navigator gr ix

  the_trail : walk nav c.tables.classes ks root ≡ walk nav c.tables.classes c.trail c.mode
  the_trail = ap₂ (λ ks root. walk nav c.tables.classes ks root) trail at_root

  pub taken : (p : ℕ) → some p ≡ walk nav c.tables.classes ks root → (m : State ℕ) → m ≡ at p c → m ≡ resume nav c
  unfolding resume walked link_navigator
  taken p e m em = em ∙ ap (λ o. walked nav o c) (e ∙ the_trail)

  pub given_up : none ≡ walk nav c.tables.classes ks root → (m : State ℕ) → m ≡ at root (with_trail [] c) → m ≡ resume nav c
  unfolding resume walked link_navigator
  given_up e m em = em ∙ ap (λ p. at p (with_trail [] c)) at_root ∙ ap (λ o. walked nav o c) (e ∙ the_trail)
