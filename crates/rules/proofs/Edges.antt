-- The edge table as a function of start and event. An added edge replaces the one with its start and event or stands at the
-- end; either way that start and event now give its end, all others give what they gave, and only a new one needs room.
use Rattle.std.specs.Prelude.{if◌then◌else◌}
use Prim.Native.Nat.{ℕ, suc, ◌≤◌}
use native.Mathlib.Omega.{arith}
use mathlib.Core.Path.{◌≡◌, refl, sym, ap, ap₂, ◌∙◌}
use mathlib.Core.Bool.{true, false, ◌&&◌, ◌||◌}
use mathlib.Core.Option.{Option, none, some}
use mathlib.Core.List.{List, [], ◌∷◌, ◌++◌}
use lib.Dec.{eqb, ltb}
use lib.ListN.{length}
use Rattle.rules.specs.Basics.{accept, some_of, is_there}
use Rattle.rules.specs.Values.{most_edges, Event, same_event}
use Rattle.rules.specs.Graph.{Node, Edge, Graph, is_edge, end_in, get_edge, has_edges, replace_in, put_edge, add_edge}
use Rattle.rules.proofs.Tests.{by_cases, and_false, no_way, void, and_l, and_r, eqb_is, eqb_same, event_is, event_same}

abbrev pub edge : ℕ → Event → ℕ → Edge
edge n e to = record { from = n; event = e; to = to }

abbrev pub stored : List Edge → Edge → List Edge
stored [] new = new ∷ []
stored (x ∷ xs) new = if is_edge new.from new.event x then new ∷ xs else x ∷ stored xs new

pub is_edge_lem : (n : ℕ) (e : Event) (to : ℕ) → is_edge n e (edge n e to) ≡ true
unfolding is_edge
is_edge_lem n e to = rw (eqb_same n, event_same e)

pub edge_is : (n : ℕ) (e : Event) (x : Edge) → is_edge n e x ≡ true → (x.from ≡ n) × (x.event ≡ e)
unfolding is_edge
edge_is n e x h = (eqb_is x.from n (and_l _ _ h), event_is x.event e (and_r (eqb x.from n) _ h))

end_same : (xs : List Edge) (n : ℕ) (e : Event) (to : ℕ) → end_in (stored xs (edge n e to)) n e ≡ some to
unfolding end_in
end_same [] n e to = rw (is_edge_lem n e to)
end_same (x ∷ xs) n e to = by_cases (is_edge n e x) (λ h. rw (h, is_edge_lem n e to)) (λ h. rw (h, h) (end_same xs n e to))

pub end_other : (xs : List Edge) (n : ℕ) (e : Event) (to m : ℕ) (d : Event) → (eqb n m && same_event e d) ≡ false → end_in (stored xs (edge n e to)) m d ≡ end_in xs m d
unfolding end_in is_edge
end_other [] n e to m d h = rw h
end_other (x ∷ xs) n e to m d h =
    by_cases (is_edge n e x)
    (λ k. rw (k, h, ap₂ (λ u v. eqb u m && same_event v d) (edge_is n e x k).0 (edge_is n e x k).1 ∙ h))
    (λ k. rw k (rw (end_other xs n e to m d h)))

-- the graph with one edge stored, and whatever nodes
module _ (g : Graph) (ns : List Node) (n : ℕ) (e : Event) (to : ℕ) where
  abbrev pub put : Graph
  put = record { nodes = ns; edges = stored g.edges (edge n e to) }

  pub get_same : get_edge put n e ≡ some to
  unfolding get_edge
  get_same = end_same g.edges n e to

  pub get_other : (m : ℕ) (d : Event) → (n ≡ m → e ≡ d → ⊥) → get_edge put m d ≡ get_edge g m d
  unfolding get_edge
  get_other m d h = end_other g.edges n e to m d (and_false (eqb n m) (same_event e d) (λ x y. h (eqb_is n m x) (event_is e d y)))

-- to store what is there changes nothing
pub stored_again : (xs : List Edge) (n : ℕ) (e : Event) (to : ℕ) → end_in xs n e ≡ some to → stored xs (edge n e to) ≡ xs
unfolding end_in
stored_again [] n e to h = void h
stored_again (x ∷ xs) n e to h =
    by_cases (is_edge n e x)
    (λ k.
    let u : some x.to ≡ some to = rw k at h in
    let t : x.to ≡ to = cc in
    rw k (λ i. record { from = sym (edge_is n e x k).0 i; event = sym (edge_is n e x k).1 i; to = sym t i } ∷ xs))
    (λ k. rw k (ap (λ r. x ∷ r) (stored_again xs n e to (rw k at h))))

pub length-old : (xs : List Edge) (n : ℕ) (e : Event) (to : ℕ) → is_there (end_in xs n e) ≡ true → length (stored xs (edge n e to)) ≡ length xs
unfolding end_in
length-old [] n e to h = no_way h
length-old (x ∷ xs) n e to h = by_cases (is_edge n e x) (λ k. rw k) (λ k. rw k (ap suc (length-old xs n e to (rw k at h))))

pub length-stored : (xs : List Edge) (n : ℕ) (e : Event) (to : ℕ) → length (stored xs (edge n e to)) ≤ suc (length xs)
length-stored [] n e to = omega arith
length-stored (x ∷ xs) n e to = by_cases (is_edge n e x) (λ k. rw k (omega arith)) (λ k. rw k (omega (arith, length-stored xs n e to)))

-- ---- `add_edge` stores

pub replaced : (xs : List Edge) (n : ℕ) (e : Event) (to : ℕ) → is_there (end_in xs n e) ≡ true → replace_in xs (edge n e to) ≡ stored xs (edge n e to)
unfolding end_in replace_in
replaced [] n e to h = no_way h
replaced (x ∷ xs) n e to h = by_cases (is_edge n e x) (λ k. rw k) (λ k. rw k (ap (λ r. x ∷ r) (replaced xs n e to (rw k at h))))

pub appended : (xs : List Edge) (n : ℕ) (e : Event) (to : ℕ) → end_in xs n e ≡ none → xs ++ (edge n e to ∷ []) ≡ stored xs (edge n e to)
unfolding end_in
appended [] n e to h = refl
appended (x ∷ xs) n e to h =
    by_cases (is_edge n e x)
    (λ k. let u : some x.to ≡ none = rw k at h in void (sym u))
    (λ k. rw k (ap (λ r. x ∷ r) (appended xs n e to (rw k at h))))

-- the edge is there, or there is room for it
pub add_edge_stores : (n to : ℕ) (e : Event) (g : Graph) → (is_there (get_edge g n e) || ltb (length g.edges) most_edges) ≡ true
    → add_edge n to e g ≡ accept (put g g.nodes n e to)
unfolding add_edge put_edge get_edge
add_edge_stores n to e g h = go (end_in g.edges n e) refl h
  where
    go : (o : Option ℕ) → end_in g.edges n e ≡ o → (is_there o || ltb (length g.edges) most_edges) ≡ true → put_edge (edge n e to) g o ≡ accept (put g g.nodes n e to)
    go none k room = rw room (ap (λ xs. accept (record { nodes = g.nodes; edges = xs })) (appended g.edges n e to k))
    go (some old) k room = ap (λ xs. accept (record { nodes = g.nodes; edges = xs })) (replaced g.edges n e to (ap is_there k))

-- ---- `has_edges`

pub has_edge : (g : Graph) (n : ℕ) → has_edges g n ≡ true → (e : Event) × (is_there (get_edge g n e) ≡ true)
unfolding has_edges get_edge end_in is_edge some_of
has_edge g n h = go g.edges h
  where
    go : (xs : List Edge) → some_of (λ x. eqb x.from n) xs ≡ true → (e : Event) × (is_there (end_in xs n e) ≡ true)
    go [] h = no_way h
    go (x ∷ xs) h =
        by_cases (eqb x.from n)
        (λ s. (x.event, rw (s, event_same x.event)))
        (λ s. let k = go xs (rw s at h) in (k.0, rw s k.1))

pub edge_has : (g : Graph) (n : ℕ) (e : Event) → is_there (get_edge g n e) ≡ true → has_edges g n ≡ true
unfolding has_edges get_edge end_in is_edge some_of
edge_has g n e h = go g.edges h
  where
    go : (xs : List Edge) → is_there (end_in xs n e) ≡ true → some_of (λ x. eqb x.from n) xs ≡ true
    go [] h = h
    go (x ∷ xs) h = by_cases (eqb x.from n) (λ s. rw s) (λ s. rw s (go xs (rw s at h)))
