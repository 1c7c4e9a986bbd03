-- What is remembered as following goes through edges, as a rank and a word: each edge that is gone through leaves the edge that following
-- takes in a graph with only the edges so far, by the rules' *one_more*. The rank of an event that is no class is told by the event, and
-- of a class by the first entry of the table that gives it to the key.
use Rattle.std.specs.Prelude.{if◌then◌else◌, cond}
use Rattle.std.specs.List.{filter}
use Rattle.std.proofs.Math.Bool.{and-false}
use Prim.Native.Nat.{ℕ, suc, ◌+◌, ◌-◌, ◌/◌, ◌%◌, ◌<◌, ◌≤◌}
use mathlib.Core.Path.{◌≡◌, refl, sym, ap, ◌∙◌, subst}
use mathlib.Core.Bool.{Bool, true, false, ◌&&◌}
use mathlib.Core.Logic.{◌⊎◌, inl, inr}
use mathlib.Core.List.{List, [], ◌∷◌, ◌++◌, map, map-append, append_assoc, append-nil}
use mathlib.Core.Option.{none, some}
use Rattle.std.proofs.Math.Option.{some-injective, none-ne-some, some-ne-none}
use native.Mathlib.Omega.{arith}
use lib.Dec.{ltb, eqb}
use lib.ListN.{length, drop, get_or, drop_of_length-le, length-map}
use lib.Seq.{drop-cons}
use borrow.Author.Tests.{lt-ltb, le-ltb, le-leb, lt-leb, eq-eqb, ne_eqb, eqb-true, ltb-true, ltb-false}
use Rattle.rules.specs.Values.{Event, Key, Class, Any, Fallthrough, same_event}
use Rattle.rules.specs.Tables.{ClassEntry, holds_key}
use Rattle.rules.specs.Graph.{Edge, Follow, Successor, FallsTo, NoSuccessor, follow_edge}
use Rattle.rules.specs.OnePass.{fall_rank, any_rank, class_rank, rank, rank_of, along, better}
use Rattle.rules.proofs.Tests.{by_cases, event_same}
use Rattle.rules.proofs.OnePass.{one_more, nothing_yet}
use Rattle.keyvalues.specs.View.{event_at, class_at, graph_by}
use Rattle.keyvalues.specs.declared.class.ClassWord.{ClassWord}
use Rattle.keyparts.specs.declared.edge.EdgeWord.{EdgeWord}
use Rattle.keyparts.specs.declared.follow.Ranked.{Ranked}
use Rattle.keyparts.specs.View.{key_in, edge_of, event_in}
use Rattle.keyparts.specs.Pass.{follow_in, found_of, Ranks, Remembers, NoneYet, After}

abbrev pub no_class : ClassWord
no_class = record { word = 0 }

-- ---- ranks

-- an event that is no class stands behind the whole class table
past : (ev : Event) → ((c : ℕ) → same_event ev (Class c) ≡ false) → (k : ℕ) (cs : List ClassEntry) → class_rank cs k ev ≡ length cs + class_rank [] k ev
unfolding class_rank
past ev h k [] = omega arith
past ev h k (c ∷ cs) = rw (h c.class, and-false (holds_key c k), past ev h k cs) (omega arith)

last_any : (k : ℕ) → class_rank [] k Any ≡ 0
unfolding class_rank any_rank same_event
last_any k = refl

last_fall : (k : ℕ) → class_rank [] k Fallthrough ≡ 1
unfolding class_rank any_rank fall_rank same_event
last_fall k = refl

last_key : (k j : ℕ) → class_rank [] k (Key j) ≡ 2
unfolding class_rank any_rank fall_rank same_event
last_key k j = refl

last_class : (k c : ℕ) → class_rank [] k (Class c) ≡ 2
unfolding class_rank any_rank fall_rank same_event
last_class k c = refl

last_most : (k : ℕ) (ev : Event) → class_rank [] k ev ≤ 2
last_most k (Key j) = omega (arith, last_key k j)
last_most k (Class c) = omega (arith, last_class k c)
last_most k Any = omega (arith, last_any k)
last_most k Fallthrough = omega (arith, last_fall k)

module _ (k : ℕ) where
  class_most : (cs : List ClassEntry) (ev : Event) → class_rank cs k ev ≤ length cs + 2
  unfolding class_rank
  class_most [] ev = omega (arith, last_most k ev)
  class_most (c ∷ cs) ev = go (holds_key c k && same_event ev (Class c.class)) (class_most cs ev)
    where
      go : (b : Bool) → class_rank cs k ev ≤ length cs + 2 → (if b then 0 else suc (class_rank cs k ev)) ≤ suc (length cs) + 2
      go true h = omega arith
      go false h = omega arith

  -- a class has a place in the table, or it stands behind all
  class_cases : (cs : List ClassEntry) (d : ℕ) → (class_rank cs k (Class d) < length cs) ⊎ (class_rank cs k (Class d) ≡ length cs + 2)
  unfolding class_rank
  class_cases [] d = inr (omega (arith, last_class k d))
  class_cases (c ∷ cs) d = go (holds_key c k && same_event (Class d) (Class c.class)) (class_cases cs d)
    where
      go : (b : Bool) → (class_rank cs k (Class d) < length cs) ⊎ (class_rank cs k (Class d) ≡ length cs + 2)
          → ((if b then 0 else suc (class_rank cs k (Class d))) < suc (length cs)) ⊎ ((if b then 0 else suc (class_rank cs k (Class d))) ≡ suc (length cs) + 2)
      go true h = inl (omega arith)
      go false (inl h) = inl (omega arith)
      go false (inr h) = inr (omega arith)

module _ (cs : List ClassEntry) (k : ℕ) where
  pub rank_same : rank cs k (Key k) ≡ 0
  unfolding rank
  rank_same = rw (event_same (Key k))

  rank_key : (j : ℕ) → eqb j k ≡ false → rank cs k (Key j) ≡ length cs + 3
  unfolding rank same_event
  rank_key j e = let p = past (Key j) (λ c. refl) k cs in let q = last_key k j in rw e (omega arith)

  pub rank_class : (d : ℕ) → rank cs k (Class d) ≡ suc (class_rank cs k (Class d))
  unfolding rank same_event
  rank_class d = refl

  rank_any : rank cs k Any ≡ length cs + 1
  unfolding rank same_event
  rank_any = let p = past Any (λ c. refl) k cs in let q = last_any k in omega arith

  rank_fall : rank cs k Fallthrough ≡ length cs + 2
  unfolding rank same_event
  rank_fall = let p = past Fallthrough (λ c. refl) k cs in let q = last_fall k in omega arith

  rank_most : (ev : Event) → rank cs k ev ≤ length cs + 3
  unfolding rank
  rank_most ev = go (same_event ev (Key k)) (class_most k cs ev)
    where
      go : (b : Bool) → class_rank cs k ev ≤ length cs + 2 → (if b then 0 else suc (class_rank cs k ev)) ≤ length cs + 3
      go true h = omega arith
      go false h = omega arith

  remembered_most : (f : Follow) → rank_of cs k f ≤ length cs + 3
  unfolding rank_of
  remembered_most (Successor ev to) = rank_most ev
  remembered_most (FallsTo to) = rank_most Fallthrough
  remembered_most NoSuccessor = omega arith

  rank_along : (ev : Event) (to : ℕ) → rank_of cs k (along ev to) ≡ rank cs k ev
  unfolding rank_of along
  rank_along (Key j) to = refl
  rank_along (Class c) to = refl
  rank_along Any to = refl
  rank_along Fallthrough to = refl

-- ---- the edge with a rank and a word
module _ (m k r : ℕ) (w : EdgeWord) where
  is_class : (r ≡ 0 → ⊥) → r ≤ m → found_of m k r w ≡ Successor (Class (key_in w / 65536 % 65536)) (edge_of w).to
  unfolding found_of
  is_class d l = rw (ne_eqb r 0 d, le-leb r m l)

  is_any : r ≡ m + 1 → found_of m k r w ≡ Successor Any (edge_of w).to
  unfolding found_of
  is_any e =
      let d : r ≡ 0 → ⊥ = λ z. absurd (omega arith) in
      let l : m < r = omega arith in
      rw (ne_eqb r 0 d, lt-leb r m l, eq-eqb r (m + 1) e)

  is_fall : r ≡ m + 2 → found_of m k r w ≡ FallsTo (edge_of w).to
  unfolding found_of
  is_fall e =
      let d : r ≡ 0 → ⊥ = λ z. absurd (omega arith) in
      let a : r ≡ m + 1 → ⊥ = λ z. absurd (omega arith) in
      let l : m < r = omega arith in
      rw (ne_eqb r 0 d, lt-leb r m l, ne_eqb r (m + 1) a, eq-eqb r (m + 2) e)

  is_none : m + 2 < r → found_of m k r w ≡ NoSuccessor
  unfolding found_of
  is_none h =
      let d : r ≡ 0 → ⊥ = λ z. absurd (omega arith) in
      let a : r ≡ m + 1 → ⊥ = λ z. absurd (omega arith) in
      let b : r ≡ m + 2 → ⊥ = λ z. absurd (omega arith) in
      let l : m < r = omega arith in
      rw (ne_eqb r 0 d, lt-leb r m l, ne_eqb r (m + 1) a, ne_eqb r (m + 2) b)

-- the edge of a word, by its rank
module _ (cs : List ClassEntry) (k : ℕ) (w : EdgeWord) where
  abbrev Found : Event → Type 0
  Found ev = rank cs k ev < length cs + 3 → found_of (length cs) k (rank cs k ev) w ≡ along ev (edge_of w).to

  found_key : (j : ℕ) → Found (Key j)
  unfolding along found_of
  found_key j h =
      by_cases (eqb j k)
      (λ e. let q = eqb-true j k e in rw (q, rank_same cs k))
      (λ e. absurd (omega (arith, rank_key cs k j e)))

  found_class : (d : ℕ) → d ≡ key_in w / 65536 % 65536 → Found (Class d)
  unfolding along
  found_class d e h = go (class_cases k cs d)
    where
      go : (class_rank cs k (Class d) < length cs) ⊎ (class_rank cs k (Class d) ≡ length cs + 2) → found_of (length cs) k (rank cs k (Class d)) w ≡ along (Class d) (edge_of w).to
      go (inl l) = rw (rank_class cs k d) (is_class (length cs) k (suc (class_rank cs k (Class d))) w (λ z. absurd (omega arith)) (omega arith) ∙ ap (λ (x : ℕ). Successor (Class x) (edge_of w).to) (sym e))
      go (inr q) = absurd (omega (arith, rank_class cs k d))

  found_any : Found Any
  unfolding along
  found_any h = is_any (length cs) k (rank cs k Any) w (rank_any cs k)

  found_fall : Found Fallthrough
  unfolding along
  found_fall h = is_fall (length cs) k (rank cs k Fallthrough) w (rank_fall cs k)

  found_along : Found (edge_of w).event
  unfolding event_at edge_of
  found_along = go (ltb (key_in w / 65536) 65536) (ltb (key_in w / 65536) 131072) (eqb (key_in w / 65536) 131072) (eqb (key_in w / 65536) 131073) refl refl
    where
      go : (p q r s : Bool) → ltb (key_in w / 65536) 65536 ≡ p → ltb (key_in w / 65536) 131072 ≡ q
          → Found (if p then Key (key_in w / 65536) else (if q then Class (key_in w / 65536 - 65536) else (if r then Any else (if s then Fallthrough else Key (key_in w / 65536)))))
      go true q r s ep eq = found_key (key_in w / 65536)
      go false true r s ep eq = let a = ltb-false (key_in w / 65536) 65536 ep in let b = ltb-true (key_in w / 65536) 131072 eq in found_class (key_in w / 65536 - 65536) (omega arith)
      go false false true s ep eq = found_any
      go false false false true ep eq = found_fall
      go false false false false ep eq = found_key (key_in w / 65536)

-- ---- one edge more
module _ (cs : List ClassEntry) (n k : ℕ) where
  more_is : (ws : List EdgeWord) (x : EdgeWord) → follow_in cs (ws ++ (x ∷ [])) n k ≡ better cs n k (follow_in cs ws n k) (edge_of x)
  unfolding follow_in
  more_is ws x = ap (λ (es : List Edge). follow_edge cs (graph_by [] es) n k) (map-append edge_of ws (x ∷ [])) ∙ one_more [] cs n k (map edge_of ws) (edge_of x)

  module _ (ws : List EdgeWord) (x : EdgeWord) (b : Ranked) (h : Remembers cs n k ws b) where
    stays : better cs n k (follow_in cs ws n k) (edge_of x) ≡ follow_in cs ws n k → Remembers cs n k (ws ++ (x ∷ [])) b
    stays e = record { rank = h.rank ∙ ap (rank_of cs k) (sym (more_is ws x ∙ e)); edge = h.edge ∙ sym (more_is ws x ∙ e) }

    -- it does not stand before the best so far
    remembers_worse : b.rank ≤ rank cs k (edge_of x).event → Remembers cs n k (ws ++ (x ∷ [])) b
    unfolding better
    remembers_worse l =
        let m : rank_of cs k (follow_in cs ws n k) ≤ rank cs k (edge_of x).event = subst (λ (i : ℕ). i ≤ rank cs k (edge_of x).event) h.rank l in
        stays (rw (le-ltb (rank cs k (edge_of x).event) (rank_of cs k (follow_in cs ws n k)) m, and-false (eqb (edge_of x).from n)))

    -- it does
    remembers_better : (edge_of x).from ≡ n → rank cs k (edge_of x).event < b.rank → Remembers cs n k (ws ++ (x ∷ [])) (record { rank = rank cs k (edge_of x).event; word = x })
    unfolding better
    remembers_better e l =
        let m : rank cs k (edge_of x).event < rank_of cs k (follow_in cs ws n k) = subst (λ (i : ℕ). rank cs k (edge_of x).event < i) h.rank l in
        let t : rank cs k (edge_of x).event < length cs + 3 = omega (arith, remembered_most cs k (follow_in cs ws n k)) in
        let q : follow_in cs (ws ++ (x ∷ [])) n k ≡ along (edge_of x).event (edge_of x).to = more_is ws x ∙ rw (eq-eqb (edge_of x).from n e, lt-ltb (rank cs k (edge_of x).event) (rank_of cs k (follow_in cs ws n k)) m) in
        record { rank = sym (ap (rank_of cs k) q ∙ rank_along cs k (edge_of x).event (edge_of x).to); edge = found_along cs k x t ∙ sym q }

  -- none of these edges is better
  pub remembers_least : (m : ℕ) (b : Ranked) → b.rank ≤ m → (p : EdgeWord → Bool) → ((x : EdgeWord) → p x ≡ true → m ≤ rank cs k (edge_of x).event)
      → (xs ws : List EdgeWord) → Remembers cs n k ws b → Remembers cs n k (ws ++ filter p xs) b
  remembers_least m b l p all [] ws h = subst (λ (l : List EdgeWord). Remembers cs n k l b) (sym (append-nil ws)) h
  remembers_least m b l p all (x ∷ xs) ws h = go (p x) refl (remembers_least m b l p all xs)
    where
      go : (t : Bool) → p x ≡ t → ((ws : List EdgeWord) → Remembers cs n k ws b → Remembers cs n k (ws ++ filter p xs) b)
          → Remembers cs n k (ws ++ cond t (x ∷ filter p xs) (filter p xs)) b
      go false e on = on ws h
      go true e on =
          let a = all x e in
          subst (λ (l : List EdgeWord). Remembers cs n k l b) (append_assoc ws (x ∷ []) (filter p xs)) (on (ws ++ (x ∷ [])) (remembers_worse ws x b h (omega arith)))

-- ---- as the code has it
module _ (classes : List ClassWord) (k : ℕ) where
  abbrev table : List ClassEntry
  table = map class_at classes

  size : length table ≡ length classes
  size = length-map classes class_at

  -- no edge yet
  none_yet : (n : ℕ) (b : Ranked) → b.rank ≡ length classes + 3 → Remembers table n k [] b
  unfolding follow_in rank_of
  none_yet n b e = record {
    rank = rw (nothing_yet [] table n k) (omega (arith, size));
    edge = is_none (length table) k b.rank b.word (omega (arith, size)) ∙ sym (nothing_yet [] table n k);
  }

  pub rank_of_other : (j : ℕ) → (j ≡ k → ⊥) → rank table k (Key j) ≡ length classes + 3
  rank_of_other j d = rank_key table k j (ne_eqb j k d) ∙ ap (λ m. m + 3) size

  pub rank_of_any : rank table k Any ≡ length classes + 1
  rank_of_any = rank_any table k ∙ ap (λ m. m + 1) size

  pub rank_of_fall : rank table k Fallthrough ≡ length classes + 2
  rank_of_fall = rank_fall table k ∙ ap (λ m. m + 2) size

-- the entries of the class table one after another: R is the rank of class d, and i entries do not give it to the key
module _ (classes : List ClassWord) (k d : ℕ) where
  module _ (R i : ℕ) (h : R ≡ suc i + class_rank (map class_at (drop i classes)) k (Class d)) where
    pub class_none : length classes ≤ i → i ≤ length classes → length classes + 3 ≡ R
    class_none l u = let e = rw (drop_of_length-le classes l) at h in omega (arith, last_class k d)

    module _ (l : i < length classes) where
      pub class_hit : (class_at (get_or classes i no_class)).class ≡ d → holds_key (class_at (get_or classes i no_class)) k ≡ true → i + 1 ≡ R
      unfolding class_rank same_event
      class_hit e t = let q = rw (drop-cons classes i no_class l, t, eq-eqb d (class_at (get_or classes i no_class)).class (sym e)) at h in omega arith

      pub class_other : ((class_at (get_or classes i no_class)).class ≡ d → ⊥) → R ≡ suc (suc i) + class_rank (map class_at (drop (suc i) classes)) k (Class d)
      unfolding class_rank same_event
      class_other e = let q = rw (drop-cons classes i no_class l, ne_eqb d (class_at (get_or classes i no_class)).class (λ z. e (sym z)), and-false (holds_key (class_at (get_or classes i no_class)) k)) at h in omega arith

      pub class_miss : holds_key (class_at (get_or classes i no_class)) k ≡ false → R ≡ suc (suc i) + class_rank (map class_at (drop (suc i) classes)) k (Class d)
      unfolding class_rank
      class_miss t = let q = rw (drop-cons classes i no_class l, t) at h in omega arith

-- ---- an edge's rank, by the event that its code stands for
module _ (classes : List ClassWord) (k : ℕ) (w : EdgeWord) where
  -- it stands for none, and is read as a key that no key is
  pub rank_of_none : k < 65536 → none ≡ event_in w → length classes + 3 ≡ rank (map class_at classes) k (edge_of w).event
  unfolding edge_of event_at
  rank_of_none hk = go (ltb (key_in w / 65536) 131074) refl
    where
      code : ℕ
      code = key_in w / 65536

      go : (t : Bool) → ltb code 131074 ≡ t → none ≡ (if t then some (edge_of w).event else none) → length classes + 3 ≡ rank (map class_at classes) k (edge_of w).event
      go true q e = absurd (none-ne-some (edge_of w).event e)
      go false q e =
          let l = ltb-false code 131074 q in
          let x : 65536 ≤ code = omega arith in
          let y : 131072 ≤ code = omega arith in
          let u : code ≡ 131072 → ⊥ = λ z. absurd (omega arith) in
          let v : code ≡ 131073 → ⊥ = λ z. absurd (omega arith) in
          let d : code ≡ k → ⊥ = λ z. absurd (omega arith) in
          rw (le-ltb code 65536 x, le-ltb code 131072 y, ne_eqb code 131072 u, ne_eqb code 131073 v) (sym (rank_of_other classes k code d))

  pub rank_of_event : (ev : Event) → some ev ≡ event_in w → rank (map class_at classes) k ev ≡ rank (map class_at classes) k (edge_of w).event
  rank_of_event ev e = ap (rank (map class_at classes) k) (same (ltb (key_in w / 65536) 131074) e)
    where
      same : (t : Bool) → some ev ≡ (if t then some (edge_of w).event else none) → ev ≡ (edge_of w).event
      same true q = some-injective ev (edge_of w).event q
      same false q = absurd (some-ne-none ev q)

pub no_edge_yet : (classes : List ClassWord) (b : Ranked) → b.rank ≡ length classes + 3 → NoneYet (map class_at classes) b
no_edge_yet classes b e = record { none = λ n k. none_yet classes k n b e }

-- ---- one edge more of the node
module _ (b e : Ranked) (cs : List ClassEntry) (k : ℕ) (r : Ranks cs k e) where
  pub better_new : e.rank < b.rank → After cs (edge_of e.word).from k b (e.word ∷ []) e
  better_new l = record {
    best = λ ws h.
        subst (λ (i : ℕ). Remembers cs (edge_of e.word).from k (ws ++ (e.word ∷ [])) (record { rank = i; word = e.word })) (sym r) (remembers_better cs (edge_of e.word).from k ws e.word b h refl (rw r at l));
  }

  pub better_old : b.rank ≤ e.rank → After cs (edge_of e.word).from k b (e.word ∷ []) b
  better_old l = record { best = λ ws h. remembers_worse cs (edge_of e.word).from k ws e.word b h (rw r at l) }
