-- Document 02, request (vi): what a change of map comes to. Why it is so: a change is made of what the calls open, map and prefix are
-- made of; carrying over takes tables, bindings and kept calls from the new map and all else from the old machine; a walk goes on
-- exactly where the next key needs more, which only an event leads to, in a graph and in a list of mappings; and the calls that a
-- machine keeps make its map (Kept, RoundTrip).
use Prim.Native.Nat.{ℕ, ◌+◌}
use mathlib.Core.Path.{◌≡◌, refl, sym, ap, ◌∙◌, fun_ext, subst}
use mathlib.Core.Bool.{true, false}
use mathlib.Core.Option.{Option, none, some}
use mathlib.Core.List.{List, [], ◌∷◌, map}
use lib.Dec.{T}
use Rattle.rules.specs.Basics.{Result, accept, refuse, ◌>>=◌}
use Rattle.rules.specs.Values.{Event, Binding, Maps, Prefixes}
use Rattle.rules.specs.Tables.{ClassEntry, Tables, tables_valid}
use Rattle.rules.specs.Graph.{NodeAction, Empty, Root, Holds, Graph, get_node, events_of, Follow, Successor, FallsTo, NoSuccessor, follow_edge}
use Rattle.rules.specs.KeyLoop.{Shared, fresh_shared, with_tables, with_trail, InputResult, NeedMore, Again, ClearTrail, Consumed, Unmapped, RunStep, RetryAfter, needs_more, Navigator, State, at, walk, walked, resume}
use Rattle.rules.specs.Calls.{Kind, Machine, with_state, navigate, graph_kind, Call, Open, Answer, Accepted, Refused, Popped, Nothing, Pressed, PressRefused, fresh, open_with, map_call, prefix_call, bind, bind_all, carry_over, change_call, settled, call, leaves, arrive, land, turn_by, graph_navigator, hint}
use Rattle.rules.specs.ListReader.{Mapping, Place, further, first_opening, move_to, fall_from, fall_at, searched, list_navigator}
use Rattle.rules.specs.MapFile.{read_map}
use Rattle.rules.proofs.Numbers.{Bytes}
use Rattle.rules.proofs.Tests.{by_cases, no_way, is_T, void}
use Rattle.rules.proofs.Results.{Always, value, always_more}
use Rattle.rules.proofs.Refusals.{change_always}
use Rattle.rules.proofs.Reached.{any_number, resume_keeps, carried_same, always_is}
use Rattle.rules.proofs.Kept.{bind_all_kept, rested, fresh_replays, leaves_replays, call_by, bound_by_calls}
use Rattle.rules.proofs.Hint.{made_since, hint_by_calls}
use Rattle.rules.proofs.RoundTrip.{made_of_read}

-- ---- a change is the calls that make its map, and carrying over

-- what a call leaves, or its refusal
abbrev pub result_of : {𝓚 : Kind} → Machine 𝓚 × Answer → Result (Machine 𝓚)
result_of (s, Accepted) = accept s
result_of (s, Refused n) = refuse n
result_of (s, Popped p) = accept s
result_of (s, Nothing) = accept s
result_of (s, Pressed rounds) = accept s
result_of (s, PressRefused n rounds) = refuse n

-- calls in their order, up to the first refusal met
abbrev pub led_by : (𝓚 : Kind) → List Call → Machine 𝓚 → Result (Machine 𝓚)
led_by 𝓚 [] s = accept s
led_by 𝓚 (c ∷ cs) s = result_of (call 𝓚 s c) >>= led_by 𝓚 cs

-- The law: a change is refused as an open with its tables and then its bindings, each a map or prefix call, are; and else the state
-- is carried over to the machine that they lead to, whatever machine they are made on
pub change_by_calls : (𝓚 : Kind) (t : Tables) (xs : List Binding) (s u : Machine 𝓚)
    → change_call 𝓚 t xs s ≡ (led_by 𝓚 (Open t ∷ map call_by xs) u >>= λ next. accept (carry_over 𝓚 s next))
unfolding change_call call settled bind bind_all
change_by_calls 𝓚 t xs s u = rw (settles u (open_with 𝓚 t), ← (fun_ext (λ s₁. by_calls xs s₁))) (go (open_with 𝓚 t) (bind_all 𝓚 xs))
  where
    settles : (s : Machine 𝓚) (r : Result (Machine 𝓚)) → result_of (settled 𝓚 s r) ≡ r
    settles s (accept s₁) = refl
    settles s (refuse n) = refl

    binds : (s : Machine 𝓚) (x : Binding) → result_of (call 𝓚 s (call_by x)) ≡ bind 𝓚 x s
    binds s (Maps mode path st) = settles s (map_call 𝓚 mode path st s)
    binds s (Prefixes mode path os) = settles s (prefix_call 𝓚 mode path os s)

    by_calls : (xs : List Binding) (s : Machine 𝓚) → bind_all 𝓚 xs s ≡ led_by 𝓚 (map call_by xs) s
    by_calls [] s = refl
    by_calls (x ∷ xs) s = rw (binds s x) (ap (λ f. bind 𝓚 x s >>= f) (fun_ext (λ s₁. by_calls xs s₁)))

    go : (r : Result (Machine 𝓚)) (f : Machine 𝓚 → Result (Machine 𝓚))
        → (r >>= λ s₁. f s₁ >>= λ next. accept (carry_over 𝓚 s next)) ≡ ((r >>= f) >>= λ next. accept (carry_over 𝓚 s next))
    go (accept s₁) f = refl
    go (refuse n) f = refl

-- ---- what passes over

-- an accepted change keeps the queue, the sequences, the entered mode and the context; tables and kept calls are the new ones
pub record PassesOver {𝓚 : Kind} (t : Tables) (xs : List Binding) (s s₁ : Machine 𝓚) : Type 0 where
  pub queue : s₁.state.shared.queue ≡ s.state.shared.queue
  pub sequences : s₁.state.shared.sequences ≡ s.state.shared.sequences
  pub mode : s₁.state.shared.mode ≡ s.state.shared.mode
  pub context : s₁.state.shared.context ≡ s.state.shared.context
  pub tables : s₁.state.shared.tables ≡ t
  pub kept : s₁.kept ≡ xs

pub passes_over : (𝓚 : Kind) (t : Tables) (xs : List Binding) (s s₁ : Machine 𝓚) → change_call 𝓚 t xs s ≡ accept s₁ → PassesOver t xs s s₁
unfolding carry_over fresh fresh_shared
passes_over 𝓚 t xs s s₁ e =
    let all : Always any_number (PassesOver t xs s) (change_call 𝓚 t xs s) = change_always 𝓚 tt (PassesOver t xs s) t xs s (λ v. always_more carried (always_is (bind_all 𝓚 xs (fresh 𝓚 t)))) in
    value (rw e at all)
  where
    carried : (next : Machine 𝓚) → bind_all 𝓚 xs (fresh 𝓚 t) ≡ accept next → PassesOver t xs s (carry_over 𝓚 s next)
    carried next m =
        let k = bind_all_kept 𝓚 xs (fresh 𝓚 t) next m in
        let c = with_tables next.state.shared.tables s.state.shared in
        let stays = λ (X : Shared → Type 0). resume_keeps (navigate 𝓚 next) X c in
        record {
          queue = stays (λ x. x.queue ≡ c.queue) refl refl;
          sequences = stays (λ x. x.sequences ≡ c.sequences) refl refl;
          mode = stays (λ x. x.mode ≡ c.mode) refl refl;
          context = stays (λ x. x.context ≡ c.context) refl refl;
          tables = (carried_same 𝓚 s next).tables ∙ ap (λ (m : State 𝓚.Place). m.shared.tables) k.1;
          kept = k.0;
        }

-- and the hint's count begins anew: with the hint, the nodes that its bindings make, counted call by call, are 1,024
pub hint_of_change : (t : Tables) (xs : List Binding) (s s₁ : Machine graph_kind) → change_call graph_kind t xs s ≡ accept s₁
    → hint s₁.bindings + made_since 0 (fresh graph_kind t) (map call_by xs) ≡ 1024
unfolding carry_over
hint_of_change t xs s s₁ e =
    let all : Always any_number Counted (change_call graph_kind t xs s) = change_always graph_kind tt Counted t xs s (λ v. always_more counted (always_is (bind_all graph_kind xs (fresh graph_kind t)))) in
    value (rw e at all)
  where
    Counted : Machine graph_kind → Type 0
    Counted s₁ = hint s₁.bindings + made_since 0 (fresh graph_kind t) (map call_by xs) ≡ 1024

    counted : (next : Machine graph_kind) → bind_all graph_kind xs (fresh graph_kind t) ≡ accept next → Counted (carry_over graph_kind s next)
    counted next m = subst Counted (bound_by_calls graph_kind xs (fresh graph_kind t) next m) (hint_by_calls t (map call_by xs)).1

-- ---- the walk along the trail

-- from place p every key needs more, and they lead to place q
pub data Leads {P : Type 0} (nav : Navigator P) (cs : List ClassEntry) : P → List ℕ → P → Type 0 where
  no_key : {p : P} → Leads nav cs p [] p
  a_key : {p q : P} {k : ℕ} {ks : List ℕ} → (nav.turn cs p k).result ≡ NeedMore → Leads nav cs (nav.turn cs p k).place ks q → Leads nav cs p (k ∷ ks) q

module _ {P : Type 0} (nav : Navigator P) (cs : List ClassEntry) where
  needs : (r : InputResult) → needs_more r ≡ true → r ≡ NeedMore
  unfolding needs_more
  needs NeedMore h = refl
  needs Again h = no_way h
  needs ClearTrail h = no_way h
  needs Consumed h = no_way h
  needs Unmapped h = no_way h
  needs (RunStep s) h = no_way h
  needs (RetryAfter s) h = no_way h

  leads_walk : {p q : P} {ks : List ℕ} → Leads nav cs p ks q → walk nav cs ks p ≡ some q
  unfolding walk needs_more
  leads_walk no_key = refl
  leads_walk (a_key e h) = rw e (leads_walk h)

  walk_leads : (ks : List ℕ) (p q : P) → walk nav cs ks p ≡ some q → Leads nav cs p ks q
  unfolding walk
  walk_leads [] p q e = let z : p ≡ q = cc in rw z no_key
  walk_leads (k ∷ ks) p q e =
      by_cases (needs_more (nav.turn cs p k).result)
      (λ n. a_key (needs _ n) (walk_leads ks _ q (rw n at e)))
      (λ n. void (rw n at e))

module _ {P : Type 0} (nav : Navigator P) (c : Shared) where
  -- the trail leads from the root of the entered mode to a place
  abbrev pub TrailLeads : P → Type 0
  TrailLeads q = Leads nav c.tables.classes (nav.root c.mode) c.trail q

  -- where it does, the place is taken, and the trail stays
  pub place_taken : (q : P) → TrailLeads q → resume nav c ≡ at q c
  unfolding resume walked
  place_taken q h = rw (leads_walk nav c.tables.classes h) refl

  -- where it does not, the place is that root, and no key is left on the trail
  pub trail_lost : ((q : P) → TrailLeads q → ⊥) → resume nav c ≡ at (nav.root c.mode) (with_trail [] c)
  unfolding resume walked
  trail_lost h = go (walk nav c.tables.classes c.trail (nav.root c.mode)) refl
    where
      go : (o : Option P) → walk nav c.tables.classes c.trail (nav.root c.mode) ≡ o → walked nav o c ≡ at (nav.root c.mode) (with_trail [] c)
      go (some q) e = absurd (h q (walk_leads nav c.tables.classes c.trail (nav.root c.mode) q e))
      go none e = refl

-- ---- no fallthrough is walked

-- in a graph more is needed only by an event to a successor
pub more_by_an_edge : (g : Graph) (cs : List ClassEntry) (n k : ℕ) → let turn = (graph_navigator g).turn cs n k in turn.result ≡ NeedMore
    → (ev : Event) × (follow_edge cs g n k ≡ Successor ev turn.place)
unfolding graph_navigator turn_by arrive land needs_more
more_by_an_edge g cs n k = go (follow_edge cs g n k)
  where
    arrives : (to : ℕ) (ev : Event) (x : NodeAction) → (arrive g to ev x).place ≡ to
    arrives to ev Empty = refl
    arrives to ev Root = refl
    arrives to ev (Holds s) = refl

    lands : (to : ℕ) (x : NodeAction) → needs_more (land to x).result ≡ false
    lands to Empty = refl
    lands to Root = refl
    lands to (Holds s) = refl

    go : (f : Follow) → (turn_by g n f).result ≡ NeedMore → (ev : Event) × (f ≡ Successor ev (turn_by g n f).place)
    go (Successor ev to) h = (ev, ap (Successor ev) (sym (arrives to ev (get_node g to).action)))
    go (FallsTo to) h = no_way (sym (lands to (get_node g to).action) ∙ ap needs_more h)
    go NoSuccessor h = no_way (ap needs_more h)

-- and in a list of mappings by an event to an opening
pub more_by_an_opening : (xs : List Mapping) (cs : List ClassEntry) (a : Place) (k : ℕ) → let turn = (list_navigator xs).turn cs a k in turn.result ≡ NeedMore
    → (ev : Event) × ((first_opening xs a (events_of cs k) ≡ some ev) × (turn.place ≡ further a ev))
unfolding list_navigator searched move_to fall_from needs_more
more_by_an_opening xs cs a k = go (first_opening xs a (events_of cs k))
  where
    falls : (o : Option ℕ) → needs_more (fall_from a o).result ≡ false
    falls none = refl
    falls (some f) = refl

    go : (o : Option Event) → (searched xs a o).result ≡ NeedMore → (ev : Event) × ((o ≡ some ev) × ((searched xs a o).place ≡ further a ev))
    go (some ev) h = (ev, (refl, refl))
    go none h = no_way (sym (falls (fall_at xs a)) ∙ ap needs_more h)

-- ---- a map that is there

module _ (𝓚 : Kind) (t : Tables) (xs : List Binding) (s next : Machine 𝓚) where
  -- tables that open accepts, and bindings that lead from the fresh machine to the next one
  changed_to : T (tables_valid t) → bind_all 𝓚 xs (fresh 𝓚 t) ≡ accept next → change_call 𝓚 t xs s ≡ accept (carry_over 𝓚 s next)
  unfolding change_call open_with
  changed_to valid made = rw (is_T (tables_valid t) valid) (ap (λ r. r >>= λ next. accept (carry_over 𝓚 s next)) made)

-- Whatever calls were made from fresh: a change to the map that the machine has leaves tables, bindings and kept calls, and walks the
-- trail in it
pub change_to_the_same : (𝓚 : Kind) (t : Tables) → T (tables_valid t) → (cs : List Call) → let s = leaves 𝓚 (fresh 𝓚 t) cs in
    change_call 𝓚 s.state.shared.tables s.kept s ≡ accept (with_state 𝓚 s (resume (navigate 𝓚 s) s.state.shared))
unfolding carry_over fresh fresh_shared
change_to_the_same 𝓚 t valid cs =
    let s = leaves 𝓚 (fresh 𝓚 t) cs in
    let h = leaves_replays 𝓚 (fresh 𝓚 t) cs (fresh_replays 𝓚 t valid) in
    changed_to 𝓚 s.state.shared.tables s.kept s (rested 𝓚 s) h.valid h.made

-- C's change, which reads a map file: a map that was read is changed to as by the call with its tables and its bindings
pub change_to_read : (bs : List ℕ) → Bytes bs → (next : Machine graph_kind) → read_map bs ≡ accept next
    → (s : Machine graph_kind) → change_call graph_kind next.state.shared.tables next.kept s ≡ accept (carry_over graph_kind s next)
change_to_read bs h next e s =
    let m = made_of_read bs h next e in
    changed_to graph_kind next.state.shared.tables next.kept s next m.valid m.made
