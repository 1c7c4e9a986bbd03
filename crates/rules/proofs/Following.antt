-- One round on a graph and on a list of mappings that it represents: the edge for an event is there exactly if the place then
-- the event is an opening, it leads to the node of that opening, and what is found there is the last step of that path. A
-- node has edges exactly if a longer opening begins so or a fallthrough mode is named there.
use Rattle.std.specs.Prelude.{if◌then◌else◌}
use Prim.Native.Nat.{ℕ}
use mathlib.Core.Path.{◌≡◌, refl, sym, ap, ap₂, ◌∙◌}
use mathlib.Core.Bool.{Bool, true, false, ◌||◌}
use mathlib.Core.Option.{Option, none, some}
use mathlib.Core.List.{List, [], ◌∷◌, ◌++◌, append-nil}
use mathlib.Core.Logic.{⊎_elim, ◌≢◌}
use lib.Dec.{T, eqb}
use Rattle.rules.specs.Basics.{some_of, present, is_there}
use Rattle.rules.specs.Values.{is_mode, Event, Fallthrough, same_event, Step}
use Rattle.rules.specs.Tables.{ClassEntry, memberships}
use Rattle.rules.specs.Graph.{Graph, get_edge, has_edges, action_of, Successor, or_else_by, lastly, follow_first, class_events, events_of, follow_edge}
use Rattle.rules.specs.KeyLoop.{NeedMore, Unmapped, RunStep}
use Rattle.rules.specs.Calls.{arrive, land, turn_by, graph_navigator}
use Rattle.rules.specs.ListReader.{Mapping, Place, place, same_place, is_among, openings, is_proper_start, goes_on, step_at, fall_at, further, first_opening, meaning, move_to, fall_from, searched, list_navigator}
use Rattle.rules.proofs.Tests.{by_cases, no_way, and_l, and_r, or_r, or_cases, both_ways, not_there, eqb_is, eqb_same, event_is, event_same, place_is, place_same}
use Rattle.rules.proofs.Simulation.{ResultFits, SameTurn, Agree}
use Rattle.rules.proofs.Places.{along, along_further, number, no_root, among_number}
use Rattle.rules.proofs.Edges.{has_edge, edge_has}
use Rattle.rules.proofs.Represents.{Turns, StepFits, action_further, SameBindings, SamePlace}

-- ---- longer openings

proper_start : (p q : List Event) → is_proper_start p q ≡ true → (e : Event) × (r : List Event) × (q ≡ p ++ (e ∷ r))
unfolding is_proper_start
proper_start [] [] h = no_way h
proper_start (d ∷ p) [] h = no_way h
proper_start [] (e ∷ q) h = (e, q, refl)
proper_start (d ∷ p) (e ∷ q) h =
    let k = proper_start p q (and_r (same_event d e) (is_proper_start p q) h) in
    (k.0, k.1, ap₂ (λ x xs. x ∷ xs) (sym (event_is d e (and_l (same_event d e) (is_proper_start p q) h))) k.2)

snoc_proper : (p : List Event) (e : Event) → is_proper_start p (p ++ (e ∷ [])) ≡ true
unfolding is_proper_start
snoc_proper [] e = refl
snoc_proper (d ∷ p) e = rw (event_same d) (snoc_proper p e)

some_among : (t : Place → Bool) (ds : List Place) → some_of t ds ≡ true → (b : Place) × (is_among b ds ≡ true) × (t b ≡ true)
unfolding some_of is_among
some_among t [] h = no_way h
some_among t (x ∷ ds) h =
    by_cases (t x)
    (λ k. (x, rw (place_same x), k))
    (λ k. let b = some_among t ds (rw k at h) in (b.0, or_r (same_place b.0 x) _ b.1, b.2))

among_some : (t : Place → Bool) (ds : List Place) (b : Place) → is_among b ds ≡ true → t b ≡ true → some_of t ds ≡ true
unfolding some_of is_among
among_some t [] b h k = h
among_some t (x ∷ ds) b h k =
    by_cases (same_place b x)
    (λ s. let tx : t x ≡ true = rw (place_is b x s) at k in rw tx)
    (λ s. or_r (t x) _ (among_some t ds b (rw s at h) k))

-- ---- a key is never followed by Fallthrough

abbrev AllTurn : List Event → Type 0
AllTurn [] = Unit {0}
AllTurn (e ∷ es) = Turns e × AllTurn es

class_turns : (cs : List ℕ) → AllTurn (class_events cs)
unfolding class_events same_event
class_turns [] = (refl, tt)
class_turns (c ∷ cs) = (refl, class_turns cs)

key_turns : (cs : List ClassEntry) (k : ℕ) → AllTurn (events_of cs k)
unfolding events_of same_event
key_turns cs k = (refl, class_turns (memberships cs k))

module _ (g : Graph) (xs : List Mapping) (H : SameBindings g xs) where
  opening_number : (q : Place) (e : Event) → is_among (further q e) (openings xs) ≡ is_there (number (further q e) (openings xs))
  opening_number q e = among_number (further q e) (openings xs) (no_root q.mode q.path e [])

  -- where a place is no opening, none is further on
  none_along : (p : List Event) (q : Place) → number q (openings xs) ≡ none → number (along q p) (openings xs) ≡ none
  none_along [] q h = rw (append-nil q.path) h
  none_along (e ∷ p) q h = rw (← (along_further q e p)) (none_along p (further q e) (H.tree.closed q e h))

  goes_further : (q : Place) → goes_on xs q ≡ true → (e : Event) × (number (further q e) (openings xs) ≢ none)
  unfolding goes_on
  goes_further q h =
      let b = some_among _ (openings xs) h in
      let k = proper_start q.path b.0.path (and_r (eqb q.mode b.0.mode) _ b.2) in
      let is : b.0 ≡ along q (k.0 ∷ k.1) = ap₂ place (sym (eqb_is q.mode b.0.mode (and_l _ _ b.2))) k.2 in
      let there : is_among (along q (k.0 ∷ k.1)) (openings xs) ≡ true = rw is at b.1 in
      let reached : is_there (number (along q (k.0 ∷ k.1)) (openings xs)) ≡ true = sym (among_number _ (openings xs) (no_root q.mode q.path k.0 k.1)) ∙ there in
      (k.0, λ n. no_way (ap is_there (sym (none_along k.1 (further q k.0) n) ∙ ap (λ x. number x (openings xs)) (along_further q k.0 k.1)) ∙ reached))

  further_goes : (q : Place) (e : Event) → is_there (number (further q e) (openings xs)) ≡ true → goes_on xs q ≡ true
  unfolding goes_on
  further_goes q e h = among_some _ (openings xs) (further q e) (opening_number q e ∙ h) (rw (eqb_same q.mode) (snoc_proper q.path e))

  -- ---- `has_edges`

  has_same : (q : Place) (i : ℕ) → number q (openings xs) ≡ some i → has_edges g i ≡ (goes_on xs q || is_there (fall_at xs q))
  has_same q i here = both_ways (has_edges g i) (goes_on xs q || is_there (fall_at xs q)) to from
    where
      to : has_edges g i ≡ true → (goes_on xs q || is_there (fall_at xs q)) ≡ true
      to h =
          let k = has_edge g i h in
          by_cases (same_event k.0 Fallthrough)
          (λ y. or_r (goes_on xs q) _ (ap is_there (sym (H.falls q i here)) ∙ (rw (← (event_is k.0 Fallthrough y)) k.1)))
          (λ t. rw (further_goes q k.0 (ap is_there (sym (H.ons q i here k.0 t)) ∙ k.1)))

      -- an opening further on is no Fallthrough
      on : (e : Event) → number (further q e) (openings xs) ≢ none → has_edges g i ≡ true
      on e h =
          by_cases (same_event e Fallthrough)
          (λ y. absurd (h (rw (event_is e Fallthrough y) (H.tree.turning q))))
          (λ t. edge_has g i e (by_cases (is_there (get_edge g i e)) (λ y. y) (λ n. absurd (h (sym (H.ons q i here e t) ∙ not_there _ n)))))

      from : (goes_on xs q || is_there (fall_at xs q)) ≡ true → has_edges g i ≡ true
      from h =
          ⊎_elim (λ u. let k = goes_further q u in on k.0 k.1) (λ u. edge_has g i Fallthrough (ap is_there (H.falls q i here) ∙ u))
          (or_cases (goes_on xs q) (is_there (fall_at xs q)) h)

  -- ---- one round

  abbrev At : ℕ → Place → Type 0
  At = SamePlace g xs

  arrive_same : (e : Event) (q : Place) (i j : ℕ) → At j (further q e) → SameTurn At (turn_by g i (Successor e j)) (move_to xs e (further q e))
  unfolding turn_by move_to arrive action_of meaning
  arrive_same e q i j here =
      rw (ap (λ n. n.action) (H.node (further q e) j here) ∙ action_further q.path e (step_at xs (further q e)))
      (go (step_at xs (further q e)) (H.nexts (further q e)))
    where
      fits : (s : Step) → StepFits (some s) → (b c : Bool) → ResultFits (if b then (if c then NeedMore else Unmapped) else RunStep s)
      fits s h true true = tt
      fits s h true false = tt
      fits s h false c = h

      go : (o : Option Step) → StepFits o → SameTurn At (arrive g j e (action_of o)) (record { event = some e; place = further q e; result = meaning xs (further q e) o })
      go none h = record { event = refl; place = here; result = refl; fits = tt }
      go (some s) h = record { event = refl; place = here; result = rw (has_same (further q e) j here); fits = fits s h s.flag (has_edges g j) }

  fall_same : (q : Place) (i : ℕ) → At i q → (o : Option ℕ) → T (present is_mode o) → SameTurn At (turn_by g i (lastly o)) (fall_from q o)
  unfolding turn_by lastly fall_from present land
  fall_same q i here none h = record { event = refl; place = here; result = refl; fits = tt }
  fall_same q i here (some m) h =
      rw (ap (λ n. n.action) (H.node (place m []) m (H.tree.roots m h))) (record { event = refl; place = H.tree.roots m h; result = refl; fits = tt })

  search_same : (q : Place) (i : ℕ) → At i q → (es : List Event) → AllTurn es → SameTurn At (turn_by g i (follow_first (get_edge g i) es)) (searched xs q (first_opening xs q es))
  unfolding follow_first or_else_by first_opening searched
  search_same q i here [] t = rw (H.falls q i here) (fall_same q i here (fall_at xs q) (H.landings q))
  search_same q i here (e ∷ es) t =
      rw (H.ons q i here e t.0, opening_number q e) (go (number (further q e) (openings xs)) refl (search_same q i here es t.1))
    where
      go : (o : Option ℕ) → number (further q e) (openings xs) ≡ o → SameTurn At (turn_by g i (follow_first (get_edge g i) es)) (searched xs q (first_opening xs q es))
          → SameTurn At (turn_by g i (or_else_by e o (follow_first (get_edge g i) es))) (searched xs q (if is_there o then some e else first_opening xs q es))
      go none n ih = ih
      go (some j) n ih = arrive_same e q i j n

  pub agree : Agree (SamePlace g xs) (graph_navigator g) (list_navigator xs)
  unfolding graph_navigator list_navigator follow_edge
  agree = record {
    roots = H.tree.roots;
    modes = λ i q here. ap (λ n. n.mode) (H.node q i here);
    turns = λ cs i q here k. search_same q i here (events_of cs k) (key_turns cs k);
  }
