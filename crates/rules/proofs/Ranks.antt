-- Why one more edge changes what following takes as `better` says: event by event, from the last that a key matches to the first. With
-- one event more in front, following goes by that event if it has an edge, and the new edge is taken if it is the first for it; an
-- edge that is behind it in rank changes nothing then, and else all is as without it.
use Rattle.std.specs.Prelude.{if◌then◌else◌}
use Prim.Native.Nat.{ℕ, suc}
use mathlib.Core.Path.{◌≡◌, refl, sym, ap, ◌∙◌}
use mathlib.Core.Bool.{Bool, true, false, ◌&&◌}
use mathlib.Core.Option.{Option, none, some}
use mathlib.Core.List.{List, [], ◌∷◌, ◌++◌}
use native.Mathlib.Omega.{arith}
use lib.Dec.{ltb}
use lib.ListN.{length}
use borrow.Author.Tests.{le-ltb}
use Rattle.rules.specs.Basics.{or_else}
use Rattle.rules.specs.Values.{Event, Key, Class, Any, Fallthrough, same_event}
use Rattle.rules.specs.Tables.{ClassEntry, holds_key, memberships}
use Rattle.rules.specs.Graph.{Edge, is_edge, end_in, Follow, Successor, FallsTo, NoSuccessor, or_else_by, lastly, follow_first, class_events, events_of}
use Rattle.rules.specs.OnePass.{fall_rank, any_rank, class_rank, rank, along}
use Rattle.rules.proofs.Tests.{by_cases, void, ltb_first, ltb_suc, event_is, event_same}

ltb_zero : (n : ℕ) → ltb n 0 ≡ false
ltb_zero n = le-ltb n 0 (omega arith)

-- ---- one event more before those that are asked for

abbrev behind : Event → (Event → ℕ) → Event → ℕ
behind ev ρ x = if same_event x ev then 0 else suc (ρ x)

abbrev pub rank_by : (Event → ℕ) → ℕ → Follow → ℕ
rank_by ρ t (Successor ev to) = ρ ev
rank_by ρ t (FallsTo to) = ρ Fallthrough
rank_by ρ t NoSuccessor = t

-- `end` gives the ends of the edges so far; one more comes, for the event E, from the node (`own`) or from another
module _ (end : Event → Option ℕ) (own : Bool) (E : Event) (to : ℕ) where
  abbrev pub more : Event → Option ℕ
  more ev = or_else (end ev) (if own && same_event E ev then some to else none)

  abbrev Law : List Event → (Event → ℕ) → ℕ → Type 0
  Law evs ρ t = follow_first more evs ≡ (if own && ltb (ρ E) (rank_by ρ t (follow_first end evs)) then along E to else follow_first end evs)

  -- no event is left but Fallthrough
  law_nil : Law [] fall_rank 1
  unfolding follow_first lastly same_event along fall_rank
  law_nil = go (end Fallthrough) own (same_event E Fallthrough) (λ h. ap (λ ev. along ev to) (event_is E Fallthrough h))
    where
      go : (o : Option ℕ) (b s : Bool) → (s ≡ true → along E to ≡ FallsTo to)
          → lastly (or_else o (if b && s then some to else none)) ≡ (if b && ltb (if s then 0 else 1) (rank_by fall_rank 1 (lastly o)) then along E to else lastly o)
      go (some x) true s h = rw (ltb_zero (if s then 0 else 1))
      go (some x) false s h = refl
      go none true true h = sym (h refl)
      go none true false h = refl
      go none false s h = refl

  -- an event without an edge is not what following goes by
  not_by : (ev : Event) → end ev ≡ none → same_event Fallthrough ev ≡ false → (ρ : Event → ℕ) (t : ℕ) (evs : List Event)
      → rank_by (behind ev ρ) (suc t) (follow_first end evs) ≡ suc (rank_by ρ t (follow_first end evs))
  unfolding follow_first lastly or_else_by
  not_by ev e f ρ t [] = go (end Fallthrough)
    where
      go : (o : Option ℕ) → rank_by (behind ev ρ) (suc t) (lastly o) ≡ suc (rank_by ρ t (lastly o))
      go (some x) = rw f
      go none = refl
  not_by ev e f ρ t (x ∷ evs) = go (end x) refl (not_by ev e f ρ t evs)
    where
      go : (o : Option ℕ) → end x ≡ o → rank_by (behind ev ρ) (suc t) (follow_first end evs) ≡ suc (rank_by ρ t (follow_first end evs))
          → rank_by (behind ev ρ) (suc t) (or_else_by x o (follow_first end evs)) ≡ suc (rank_by ρ t (or_else_by x o (follow_first end evs)))
      go none q ih = ih
      go (some y) q ih =
          by_cases (same_event x ev)
          (λ h. void (sym e ∙ ap end (sym (event_is x ev h)) ∙ q))
          (λ h. rw h)

  law_cons : (ev : Event) → along ev to ≡ Successor ev to → same_event Fallthrough ev ≡ false → (evs : List Event) (ρ : Event → ℕ) (t : ℕ)
      → Law evs ρ t → Law (ev ∷ evs) (behind ev ρ) (suc t)
  unfolding follow_first or_else_by
  law_cons ev a f evs ρ t law =
      go (end ev) own (same_event E ev) (follow_first end evs) (follow_first more evs) (rank_by ρ t (follow_first end evs))
      (λ h. ap (λ x. along x to) (event_is E ev h) ∙ a) (λ h. not_by ev h f ρ t evs) law
    where
      go : (o : Option ℕ) (b s : Bool) (F F' : Follow) (r : ℕ) → (s ≡ true → along E to ≡ Successor ev to) → (o ≡ none → rank_by (behind ev ρ) (suc t) F ≡ suc r)
          → F' ≡ (if b && ltb (ρ E) r then along E to else F)
          → or_else_by ev (or_else o (if b && s then some to else none)) F'
          ≡ (if b && ltb (if s then 0 else suc (ρ E)) (rank_by (behind ev ρ) (suc t) (or_else_by ev o F)) then along E to else or_else_by ev o F)
      go (some x) true s F F' r h k l = rw (event_same ev, ltb_zero (if s then 0 else suc (ρ E)))
      go (some x) false s F F' r h k l = refl
      go none true true F F' r h k l = rw (k refl, ltb_first r) (sym (h refl))
      go none true false F F' r h k l = rw (k refl, ltb_suc (ρ E) r) l
      go none false s F F' r h k l = l

  -- an entry of the class table that does not hold the key
  law_skip : (evs : List Event) (ρ : Event → ℕ) (t : ℕ) → Law evs ρ t → Law evs (λ x. suc (ρ x)) (suc t)
  law_skip evs ρ t law = rw (up (follow_first end evs), ltb_suc (ρ E) (rank_by ρ t (follow_first end evs))) law
    where
      up : (f : Follow) → rank_by (λ x. suc (ρ x)) (suc t) f ≡ suc (rank_by ρ t f)
      up (Successor ev x) = refl
      up (FallsTo x) = refl
      up NoSuccessor = refl

  module _ (k : ℕ) where
    law_classes : (cs : List ClassEntry) → Law (class_events (memberships cs k)) (class_rank cs k) (suc (suc (length cs)))
    unfolding class_rank any_rank class_events memberships same_event along
    law_classes [] = law_cons Any refl refl [] fall_rank 1 law_nil
    law_classes (c ∷ cs) = go (holds_key c k) (law_classes cs)
      where
        go : (b : Bool) → Law (class_events (memberships cs k)) (class_rank cs k) (suc (suc (length cs)))
            → Law (class_events ((if b then c.class ∷ [] else []) ++ memberships cs k)) (λ x. if b && same_event x (Class c.class) then 0 else suc (class_rank cs k x)) (suc (suc (suc (length cs))))
        go true law = law_cons (Class c.class) refl refl (class_events (memberships cs k)) (class_rank cs k) (suc (suc (length cs))) law
        go false law = law_skip (class_events (memberships cs k)) (class_rank cs k) (suc (suc (length cs))) law

    pub law_all : (cs : List ClassEntry) → Law (events_of cs k) (rank cs k) (suc (suc (suc (length cs))))
    unfolding events_of rank same_event along
    law_all cs = law_cons (Key k) refl refl (class_events (memberships cs k)) (class_rank cs k) (suc (suc (length cs))) (law_classes cs)

-- ---- the ends for an event in edges and further edges

pub end_append : (es fs : List Edge) (n : ℕ) (ev : Event) → end_in (es ++ fs) n ev ≡ or_else (end_in es n ev) (end_in fs n ev)
unfolding end_in
end_append [] fs n ev = refl
end_append (e ∷ es) fs n ev = go (is_edge n ev e) (end_append es fs n ev)
  where
    go : (b : Bool) → end_in (es ++ fs) n ev ≡ or_else (end_in es n ev) (end_in fs n ev)
        → (if b then some e.to else end_in (es ++ fs) n ev) ≡ or_else (if b then some e.to else end_in es n ev) (end_in fs n ev)
    go true ih = refl
    go false ih = ih

-- following sees no more than the ends for the events that the key matches
pub follow_like : (f g : Event → Option ℕ) (cs : List ClassEntry) (k : ℕ) → f (Key k) ≡ g (Key k) → ((c : ℕ) → f (Class c) ≡ g (Class c)) → f Any ≡ g Any → f Fallthrough ≡ g Fallthrough
    → follow_first f (events_of cs k) ≡ follow_first g (events_of cs k)
unfolding follow_first events_of class_events
follow_like f g cs k h hc ha hf = rw h (ap (or_else_by (Key k) (g (Key k))) (go (memberships cs k)))
  where
    go : (ms : List ℕ) → follow_first f (class_events ms) ≡ follow_first g (class_events ms)
    go [] = rw ha (ap (or_else_by Any (g Any)) (ap lastly hf))
    go (c ∷ ms) = rw (hc c) (ap (or_else_by (Class c) (g (Class c))) (go ms))

pub nowhere : (evs : List Event) → follow_first (λ ev. none) evs ≡ NoSuccessor
unfolding follow_first or_else_by lastly
nowhere [] = refl
nowhere (ev ∷ evs) = nowhere evs
