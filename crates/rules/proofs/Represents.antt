-- A graph represents openings ds, steps a and fallthrough modes f at them: seen through its lookups it is a tree whose nodes
-- are the roots and the openings, under their numbers. Three small changes keep this: one node more, another step, another
-- Fallthrough edge. An opening has one edge that leads to it and at most one Fallthrough edge, so 1,024 openings never fill
-- 2,048 edges.
use Prim.Native.Nat.{ℕ, ◌+◌, ◌<◌, ◌≤◌}
use native.Mathlib.Omega.{arith}
use mathlib.Core.Path.{◌≡◌, refl, sym, ap, ap₂, subst, ◌∙◌}
use mathlib.Core.Bool.{true, false, ◌||◌, false≢true}
use mathlib.Core.Option.{Option, none, some}
use mathlib.Core.List.{List, [], ◌∷◌, ◌++◌}
use mathlib.Core.Logic.{⊎_elim}
use lib.Dec.{T, ltb}
use lib.ListN.{length, set, length-append, length-set, get_or-append}
use lib.Seq.{get_or-append_seam, get_or-set_same, get_or-set_other}
use Rattle.rules.specs.Basics.{present, is_there}
use Rattle.rules.specs.Values.{mode_count, most_nodes, most_edges, is_mode, Event, Fallthrough, same_event, Step}
use Rattle.rules.specs.Graph.{NodeAction, Empty, Root, Holds, Node, no_node, Graph, get_node, get_edge, action_of}
use Rattle.rules.specs.ListReader.{Mapping, Place, place, same_place, is_among, openings, step_at, fall_at, further}
use Rattle.rules.proofs.Tests.{lt_true, by_cases, no_way, void, event_same, place_is, place_same}
use Rattle.rules.proofs.Places.{further_is, number, no_root, number_below, number_is, number_cons, number_uncons, number_none, among_number, count, count_le, count_mono, count_more, changed}
use Rattle.rules.proofs.Edges.{put, get_same, get_other, length-old, length-stored}

-- a key, a class or any-key
abbrev pub Turns : Event → Type 0
Turns e = same_event e Fallthrough ≡ false

turns_not : (e : Event) → Turns e → {X : Type 0} → e ≡ Fallthrough → X
turns_not e t h = no_way (sym t ∙ ap (same_event e) (sym h) ∙ event_same e)

abbrev pub action_in : List Event → Option Step → NodeAction
action_in [] o = Root
action_in (e ∷ p) o = action_of o

pub action_further : (p : List Event) (e : Event) (o : Option Step) → action_in (p ++ (e ∷ [])) o ≡ action_of o
action_further [] e o = refl
action_further (d ∷ p) e o = refl

abbrev pub node_for : Place → Option Step → Node
node_for q o = record { mode = q.mode; action = action_in q.path o }

abbrev pub StepFits : Option Step → Type 0
StepFits none = Unit {0}
StepFits (some s) = T (present is_mode s.next)

-- The openings form a tree: a root's number is its mode; where a place is no opening none is further on; none is reached by
-- Fallthrough; and they are few enough
pub record Tree (ds : List Place) : Type 0 where
  pub roots : (m : ℕ) → T (is_mode m) → number (place m []) ds ≡ some m
  pub closed : (q : Place) (e : Event) → number q ds ≡ none → number (further q e) ds ≡ none
  pub turning : (q : Place) → number (further q Fallthrough) ds ≡ none
  pub small : length ds ≤ most_nodes

-- What is found at the number of a place: its node, the edges to the openings one event further on, the Fallthrough edge. There
-- is no other node (`size`), no edge from one (`beyond`), nothing known of other places (`bare`), room for edges that are
-- still to come (`room`), and the modes that steps name are modes (`nexts`, `landings`)
pub record Represents (g : Graph) (ds : List Place) (a : Place → Option Step) (f : Place → Option ℕ) : Type 0 where
  pub tree : Tree ds
  pub node : (q : Place) (i : ℕ) → number q ds ≡ some i → get_node g i ≡ node_for q (a q)
  pub ons : (q : Place) (i : ℕ) → number q ds ≡ some i → (e : Event) → Turns e → get_edge g i e ≡ number (further q e) ds
  pub falls : (q : Place) (i : ℕ) → number q ds ≡ some i → get_edge g i Fallthrough ≡ f q
  pub size : length g.nodes ≡ mode_count + length ds
  pub beyond : (i : ℕ) → mode_count + length ds ≤ i → (e : Event) → get_edge g i e ≡ none
  pub bare : (q : Place) → number q ds ≡ none → (a q ≡ none) × (f q ≡ none)
  pub room : length g.edges ≤ length ds + count f ds
  pub nexts : (q : Place) → StepFits (a q)
  pub landings : (q : Place) → T (present is_mode (f q))

-- ---- one node more, at the place q then e

abbrev pub grown : Graph → ℕ → Event → ℕ → Graph
grown g m e i = put g (g.nodes ++ (record { mode = m; action = Empty } ∷ [])) i e (length g.nodes)

module _ {g : Graph} {ds : List Place} {a : Place → Option Step} {f : Place → Option ℕ} (H : Represents g ds a f)
    (q : Place) (i : ℕ) (e : Event) (here : number q ds ≡ some i) (t : Turns e) (new : number (further q e) ds ≡ none) (left : length ds < most_nodes) where
  abbrev next : Place
  next = further q e

  abbrev blank : Node
  blank = record { mode = q.mode; action = Empty }

  abbrev g₁ : Graph
  g₁ = grown g q.mode e i

  still : (r : Place) (j : ℕ) → number r ds ≡ some j → number r (next ∷ ds) ≡ some j
  still r j h = number_cons r next ds j h new

  kept : (j : ℕ) (d : Event) → (i ≡ j → e ≡ d → ⊥) → get_edge g₁ j d ≡ get_edge g j d
  kept = get_other g g₁.nodes i e (length g.nodes)

  size_ext : length g₁.nodes ≡ mode_count + length (next ∷ ds)
  size_ext = let k : length g.nodes ≡ mode_count + length ds = H.size in rw (length-append g.nodes (blank ∷ [])) (omega arith)

  node_ext : (r : Place) (j : ℕ) → number r (next ∷ ds) ≡ some j → get_node g₁ j ≡ node_for r (a r)
  unfolding get_node action_of
  node_ext r j h =
      ⊎_elim
      (λ u. rw (u.0, u.1, ← H.size, (H.bare next new).0, action_further q.path e none) (get_or-append_seam g.nodes blank [] no_node))
      (λ u. get_or-append g.nodes _ no_node j (omega (arith, H.size, number_below r ds j u)) ∙ H.node r j u)
      (number_uncons r next ds j h)

  -- either the new edge is looked up, or one that was there, or one of the new node, which has none
  ons_ext : (r : Place) (j : ℕ) → number r (next ∷ ds) ≡ some j → (d : Event) → Turns d → get_edge g₁ j d ≡ number (further r d) (next ∷ ds)
  ons_ext r j h d td = by_cases (same_place (further r d) next) (λ s. rw s (hit (further_is r q d e s))) (λ s. rw s (miss s))
    where
      hit : (r ≡ q) × (d ≡ e) → get_edge g₁ j d ≡ some (mode_count + length ds)
      hit b =
          let w : number q (next ∷ ds) ≡ some j = subst (λ (x : Place). number x (next ∷ ds) ≡ some j) b.0 h in
          let ji : j ≡ i = cc (still q i here, w) in
          rw (ji, b.1, ← H.size) (get_same g g₁.nodes i e (length g.nodes))

      miss : same_place (further r d) next ≡ false → get_edge g₁ j d ≡ number (further r d) ds
      miss s =
          kept j d (λ ij ed. clash (number_is r q (next ∷ ds) j h (rw (sym ij) (still q i here))) (sym ed))
          ∙ ⊎_elim (λ u. H.beyond j (omega (arith, u.1)) d ∙ sym (H.tree.closed r d (rw u.0 new))) (λ u. H.ons r j u d td) (number_uncons r next ds j h)
        where
          clash : r ≡ q → d ≡ e → ⊥
          clash rq de = false≢true (sym s ∙ ap₂ (λ p c. same_place (further p c) next) rq de ∙ place_same next)

  falls_ext : (r : Place) (j : ℕ) → number r (next ∷ ds) ≡ some j → get_edge g₁ j Fallthrough ≡ f r
  falls_ext r j h =
      kept j Fallthrough (λ _ ed. turns_not e t ed)
      ∙ ⊎_elim (λ u. H.beyond j (omega (arith, u.1)) Fallthrough ∙ sym (rw u.0 (H.bare next new).1)) (λ u. H.falls r j u) (number_uncons r next ds j h)

  tree_ext : Tree (next ∷ ds)
  tree_ext = record { roots = λ m h. still (place m []) m (H.tree.roots m h); closed = closed; turning = turning; small = left }
    where
      closed : (r : Place) (d : Event) → number r (next ∷ ds) ≡ none → number (further r d) (next ∷ ds) ≡ none
      closed r d h =
          by_cases (same_place (further r d) next)
          (λ s. let w : number q (next ∷ ds) ≡ none = subst (λ (x : Place). number x (next ∷ ds) ≡ none) (further_is r q d e s).0 h in void (sym w ∙ still q i here))
          (λ s. rw s (H.tree.closed r d (number_none r next ds h)))

      turning : (r : Place) → number (further r Fallthrough) (next ∷ ds) ≡ none
      turning r = by_cases (same_place (further r Fallthrough) next) (λ s. turns_not e t (sym (further_is r q Fallthrough e s).1)) (λ s. rw s (H.tree.turning r))

  room_ext : length g₁.edges ≤ length (next ∷ ds) + count f (next ∷ ds)
  room_ext = rw (H.bare next new).1 (omega (arith, H.room, length-stored g.edges i e (length g.nodes)))

  pub with_node_lem : Represents g₁ (next ∷ ds) a f
  with_node_lem = record {
    tree = tree_ext;
    node = node_ext;
    ons = ons_ext;
    falls = falls_ext;
    size = size_ext;
    beyond = λ j h d. kept j d (λ ij _. omega (arith, ij, number_below q ds i here)) ∙ H.beyond j (omega arith) d;
    bare = λ r h. H.bare r (number_none r next ds h);
    room = room_ext;
    nexts = H.nexts;
    landings = H.landings;
  }

-- ---- another step at an opening, and another Fallthrough edge

abbrev pub acted : Graph → ℕ → ℕ → Step → Graph
acted g m i s = record { nodes = set g.nodes i (record { mode = m; action = Holds s }); edges = g.edges }

module _ {g : Graph} {ds : List Place} {a : Place → Option Step} {f : Place → Option ℕ} (H : Represents g ds a f)
    (q₀ : Place) (e : Event) (i : ℕ) (here : number (further q₀ e) ds ≡ some i) where
  abbrev q : Place
  q = further q₀ e

  -- another place has another number
  apart : (r : Place) (j : ℕ) → number r ds ≡ some j → same_place r q ≡ false → j ≡ i → ⊥
  apart r j h b ji = false≢true (sym b ∙ ap (λ p. same_place p q) (number_is r q ds j h (rw ji here)) ∙ place_same q)

  same_number : (r : Place) (j : ℕ) → number r ds ≡ some j → same_place r q ≡ true → j ≡ i
  same_number r j h b = let w : number q ds ≡ some j = rw (place_is r q b) at h in cc (here, w)

  -- what is known changes at the one place, and that is there
  bare_still : {A : Type 0} (k : Place → Option A) (o : Option A) (r : Place) → number r ds ≡ none → k r ≡ none → changed k q o r ≡ none
  bare_still k o r h n = by_cases (same_place r q) (λ b. void (sym h ∙ ap (λ p. number p ds) (place_is r q b) ∙ here)) (λ b. rw b n)

  module _ (s : Step) (fits : T (present is_mode s.next)) where
    node_act : (r : Place) (j : ℕ) → number r ds ≡ some j → get_node (acted g q.mode i s) j ≡ node_for r (changed a q (some s) r)
    unfolding get_node action_of
    node_act r j h =
        by_cases (same_place r q)
        (λ b. rw (same_number r j h b, b, place_is r q b, action_further q₀.path e (some s)) (get_or-set_same g.nodes i _ no_node (omega (arith, H.size, number_below q ds i here))))
        (λ b. rw b (get_or-set_other g.nodes i j _ no_node (apart r j h b) ∙ H.node r j h))

    pub with_step : Represents (acted g q.mode i s) ds (changed a q (some s)) f
    unfolding get_edge
    with_step = record {
      tree = H.tree;
      node = node_act;
      ons = H.ons;
      falls = H.falls;
      size = length-set g.nodes i _ ∙ H.size;
      beyond = H.beyond;
      bare = λ r h. (bare_still a (some s) r h (H.bare r h).0, (H.bare r h).1);
      room = H.room;
      nexts = λ r. by_cases (same_place r q) (λ b. rw b fits) (λ b. rw b (H.nexts r));
      landings = H.landings;
    }

  module _ (m : ℕ) (fits : T (is_mode m)) where
    abbrev f₁ : Place → Option ℕ
    f₁ = changed f q (some m)

    abbrev fallen : Graph
    fallen = put g g.nodes i Fallthrough m

    kept_fall : (j : ℕ) (d : Event) → (i ≡ j → Fallthrough ≡ d → ⊥) → get_edge fallen j d ≡ get_edge g j d
    kept_fall = get_other g g.nodes i Fallthrough m

    falls_fall : (r : Place) (j : ℕ) → number r ds ≡ some j → get_edge fallen j Fallthrough ≡ f₁ r
    falls_fall r j h =
        by_cases (same_place r q)
        (λ b. rw (b, same_number r j h b) (get_same g g.nodes i Fallthrough m))
        (λ b. rw b (kept_fall j Fallthrough (λ ij _. apart r j h b (sym ij)) ∙ H.falls r j h))

    more : (r : Place) → is_there (f r) ≡ true → is_there (f₁ r) ≡ true
    more r h = by_cases (same_place r q) (λ b. rw b) (λ b. rw b h)

    -- the edge is there, or there is room for it
    room_at : (o : Option ℕ) → get_edge g i Fallthrough ≡ o → (length fallen.edges ≤ length ds + count f₁ ds) × ((is_there o || ltb (length g.edges) most_edges) ≡ true)
    unfolding get_edge
    room_at none h =
        let there : is_among q ds ≡ true = among_number q ds (no_root q₀.mode q₀.path e []) ∙ ap is_there here in
        let k : count f ds < count f₁ ds = count_more f f₁ more q ds there (sym (H.falls q i here) ∙ h) (rw (place_same q)) in
        let l : length g.edges < most_edges = omega (arith, H.room, H.tree.small, count_le f₁ ds) in
        (omega (arith, H.room, length-stored g.edges i Fallthrough m), lt_true (length g.edges) most_edges l)
    room_at (some j) h = (omega (arith, H.room, length-old g.edges i Fallthrough m (ap is_there h), count_mono f f₁ more ds), refl)

    pub fall_room : (is_there (get_edge g i Fallthrough) || ltb (length g.edges) most_edges) ≡ true
    fall_room = (room_at (get_edge g i Fallthrough) refl).1

    pub with_fall : Represents fallen ds a f₁
    unfolding get_node present
    with_fall = record {
      tree = H.tree;
      node = H.node;
      ons = λ r j h d t. kept_fall j d (λ _ fd. turns_not d t (sym fd)) ∙ H.ons r j h d t;
      falls = falls_fall;
      size = H.size;
      beyond = λ j h d. kept_fall j d (λ ij _. omega (arith, ij, number_below q ds i here)) ∙ H.beyond j h d;
      bare = λ r h. ((H.bare r h).0, bare_still f (some m) r h (H.bare r h).1);
      room = (room_at (get_edge g i Fallthrough) refl).0;
      nexts = H.nexts;
      landings = λ r. by_cases (same_place r q) (λ b. rw b fits) (λ b. rw b (H.landings r));
    }

-- ---- a graph and a list of mappings, a node and a place

abbrev pub SameBindings : Graph → List Mapping → Type 0
SameBindings g xs = Represents g (openings xs) (step_at xs) (fall_at xs)

abbrev pub SamePlace : Graph → List Mapping → ℕ → Place → Type 0
SamePlace g xs i q = number q (openings xs) ≡ some i
