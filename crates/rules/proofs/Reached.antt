-- What holds of every machine that calls lead to, because each call keeps it: its graph has one edge at most of a start and an
-- event, it keeps at most 1,024 binding calls, and its trail is short. A call is an open, a change of map, a binding, or one that
-- leaves the map (`by_call`); and a change is an open and bindings. So what holds of a map is shown for three cases (`map_keeps`).
use Prim.Native.Nat.{ℕ, ◌≤◌}
use native.Mathlib.Omega.{arith}
use mathlib.Core.Path.{◌≡◌, refl}
use mathlib.Core.Bool.{Bool, true, false}
use mathlib.Core.Option.{Option, none, some}
use mathlib.Core.List.{List, [], ◌∷◌, ◌++◌}
use lib.Dec.{T}
use lib.ListN.{length}
use Rattle.rules.specs.Basics.{Result, accept, refuse}
use Rattle.rules.specs.Values.{largest, most_kept, most_trail, rest_of, Binding, Maps, Prefixes, Pair}
use Rattle.rules.specs.Tables.{Tables, tables_valid}
use Rattle.rules.specs.Graph.{fresh_graph}
use Rattle.rules.specs.KeyLoop.{Shared, fresh_shared, with_trail, Navigator, State, Input, round, input_key, walk, walked, resume}
use Rattle.rules.specs.Calls.{Kind, Machine, with_state, navigate, graph_kind, Call, Open, Map, Prefix, Press, Pop, Repeats, Reset, Change, Answer}
use Rattle.rules.specs.Calls.{fresh, open_with, map_call, prefix_call, bind, bind_all, key_call, carry_over, change_call, settled, pressed, popped, call, leaves}
use Rattle.rules.proofs.Results.{Always, accepts, refuses, always_bind, always_more}
use Rattle.rules.proofs.Grown.{OneEdge, one_edge_grows}
use Rattle.rules.proofs.Weights.{Each, each_any, weight_by}
use Rattle.rules.proofs.Rounds.{Bounded, splits, halves, weight_16, round_bounded, loop_bounded}
use Rattle.rules.proofs.Refusals.{SameMap, Stays, open_always, keep_always, key_always, repeat_always, reset_always, bind_always, bind_all_always, change_always}

-- whatever the number is
abbrev pub any_number : ℕ → Bool
any_number n = true

module _ (𝓚 : Kind) where
  pub settled_keeps : (X : Machine 𝓚 → Type 0) (s : Machine 𝓚) → X s → {r : Result (Machine 𝓚)} → Always any_number X r → X (settled 𝓚 s r).0
  unfolding settled
  settled_keeps X s h (accepts k) = k
  settled_keeps X s h (refuses n o) = h

  settled_stays : (s : Machine 𝓚) {r : Result (Machine 𝓚)} → Always any_number (Stays s) r → Stays s (settled 𝓚 s r).0
  settled_stays s h = settled_keeps (Stays s) s (record { tables = refl; bindings = refl; kept = refl }, refl) h

  pub pressed_keeps : (X : Machine 𝓚 → Type 0) (s : Machine 𝓚) (n : ℕ) → X s → {Y : State 𝓚.Place → Type 0} {r : Result (State 𝓚.Place)}
      → ((m : State 𝓚.Place) → Y m → X (with_state 𝓚 s m)) → Always any_number Y r → X (pressed 𝓚 s n r).0
  unfolding pressed
  pressed_keeps X s n h k (accepts {a = m} y) = k m y
  pressed_keeps X s n h k (refuses x o) = h

  -- a key leaves the map as it was
  key_map : (i : Input) (s : Machine 𝓚) → let r = key_call 𝓚 i s in SameMap s (pressed 𝓚 s r.rounds r.result).0
  key_map i s =
      pressed_keeps (SameMap s) s _ (record { tables = refl; bindings = refl; kept = refl }) (λ m e. record { tables = e; bindings = refl; kept = refl })
      (key_always 𝓚 tt tt tt tt tt i s)

  popped_stays : (s : Machine 𝓚) (ps : List Pair) → Stays s (popped 𝓚 s ps).0
  unfolding popped
  popped_stays s [] = (record { tables = refl; bindings = refl; kept = refl }, refl)
  popped_stays s (p ∷ ps) = (record { tables = refl; bindings = refl; kept = refl }, refl)

-- ---- what carrying over keeps

-- walking leaves all that two machines share, but that the trail may be emptied
pub resume_keeps : {P : Type 0} (nav : Navigator P) (X : Shared → Type 0) (c : Shared) → X c → X (with_trail [] c) → X (resume nav c).shared
unfolding resume walked
resume_keeps {P} nav X c h k = go (walk nav c.tables.classes c.trail (nav.root c.mode))
  where
    go : (o : Option P) → X (walked nav o c).shared
    go (some p) = h
    go none = k

-- the map that the state is carried over to stays as it is
pub carried_same : (𝓚 : Kind) (s next : Machine 𝓚) → SameMap next (carry_over 𝓚 s next)
unfolding carry_over
carried_same 𝓚 s next =
    let t = next.state.shared.tables in
    record { tables = resume_keeps (navigate 𝓚 next) (λ c. c.tables ≡ t) _ refl refl; bindings = refl; kept = refl }

-- ---- what every call keeps

-- does the call begin a map anew, if it is accepted?
abbrev pub begins_anew : Call → Bool
begins_anew (Open t) = true
begins_anew (Change t xs) = true
begins_anew c = false

module _ (𝓚 : Kind) where
  -- X holds of what a call leaves and answers if it does of what an open, a change, a binding and a key come to, and of all that
  -- leaves map and trail
  by_each : (X : Call → Machine 𝓚 × Answer → Type 0) (s : Machine 𝓚)
      → ((t : Tables) → X (Open t) (settled 𝓚 s (open_with 𝓚 t)))
      → ((t : Tables) (xs : List Binding) → X (Change t xs) (settled 𝓚 s (change_call 𝓚 t xs s)))
      → ((c : Call) (x : Binding) → begins_anew c ≡ false → X c (settled 𝓚 s (bind 𝓚 x s)))
      → ((i : Input) → let r = key_call 𝓚 i s in X (Press i) (pressed 𝓚 s r.rounds r.result))
      → ((c : Call) (s₁ : Machine 𝓚) (x : Answer) → begins_anew c ≡ false → Stays s s₁ → X c (s₁, x))
      → (c : Call) → X c (call 𝓚 s c)
  unfolding call bind
  by_each X s o ch b p k (Open t) = o t
  by_each X s o ch b p k (Change t xs) = ch t xs
  by_each X s o ch b p k (Map mode path st) = b (Map mode path st) (Maps mode path st) refl
  by_each X s o ch b p k (Prefix mode path os) = b (Prefix mode path os) (Prefixes mode path os) refl
  by_each X s o ch b p k (Press i) = p i
  by_each X s o ch b p k Pop = k Pop _ _ refl (popped_stays 𝓚 s s.state.shared.queue)
  by_each X s o ch b p k (Repeats q over) = k (Repeats q over) _ _ refl (settled_stays 𝓚 s (repeat_always 𝓚 tt tt q over s))
  by_each X s o ch b p k Reset = k Reset _ _ refl (settled_stays 𝓚 s (reset_always 𝓚 tt tt s))

  -- the same of a key as of all else that leaves the map; X is told whether the call begins anew, and of the call no more
  pub by_call : (X : Bool → Machine 𝓚 × Answer → Type 0) (s : Machine 𝓚)
      → ((t : Tables) → X true (settled 𝓚 s (open_with 𝓚 t)))
      → ((t : Tables) (xs : List Binding) → X true (settled 𝓚 s (change_call 𝓚 t xs s)))
      → ((x : Binding) → X false (settled 𝓚 s (bind 𝓚 x s)))
      → ((s₁ : Machine 𝓚) (x : Answer) → SameMap s s₁ → X false (s₁, x))
      → (c : Call) → X (begins_anew c) (call 𝓚 s c)
  by_call X s o ch b k =
      by_each (λ c r. X (begins_anew c) r) s o ch (λ c x n. rw n (b x)) (λ i. k _ _ (key_map 𝓚 i s)) (λ c s₁ x n e. rw n (k s₁ x e.0))

  -- what is so of a fresh map, what a binding keeps, and what is so of every machine with the same map, every call keeps
  pub map_keeps : (X : Machine 𝓚 → Type 0)
      → ((t : Tables) → T (tables_valid t) → X (fresh 𝓚 t))
      → ((x : Binding) (s : Machine 𝓚) → X s → Always any_number X (bind 𝓚 x s))
      → ((s s₁ : Machine 𝓚) → SameMap s s₁ → X s → X s₁)
      → (s : Machine 𝓚) (c : Call) → X s → X (call 𝓚 s c).0
  map_keeps X o b k s c h =
      by_call (λ a r. X r.0) s
      (λ t. settled_keeps 𝓚 X s h (always_more (λ s₁ e. rw e.0 (o t e.1)) (open_always 𝓚 tt t)))
      (λ t xs. settled_keeps 𝓚 X s h
      (change_always 𝓚 tt X t xs s (λ v. always_more (λ next x. k next (carry_over 𝓚 s next) (carried_same 𝓚 s next) x) (bind_all_always 𝓚 X b xs (fresh 𝓚 t) (o t v)))))
      (λ x. settled_keeps 𝓚 X s h (b x s h))
      (λ s₁ x e. k s s₁ e h)
      c

  -- what each call of which C holds keeps, a list of such calls keeps
  leaves_keep : (X : Machine 𝓚 → Type 0) (C : Call → Type 0) → ((s : Machine 𝓚) (c : Call) → C c → X s → X (call 𝓚 s c).0)
      → (s : Machine 𝓚) (cs : List Call) → Each C cs → X s → X (leaves 𝓚 s cs)
  unfolding leaves
  leaves_keep X C keeps s [] e h = h
  leaves_keep X C keeps s (c ∷ cs) e h = leaves_keep X C keeps (call 𝓚 s c).0 cs e.1 (keeps s c e.0 h)

  pub leaves_append : (s : Machine 𝓚) (cs ds : List Call) → leaves 𝓚 s (cs ++ ds) ≡ leaves 𝓚 (leaves 𝓚 s cs) ds
  unfolding leaves
  leaves_append s [] ds = refl
  leaves_append s (c ∷ cs) ds = leaves_append (call 𝓚 s c).0 cs ds

  pub leaves_keep_all : (X : Machine 𝓚 → Type 0) → ((s : Machine 𝓚) (c : Call) → X s → X (call 𝓚 s c).0) → (s : Machine 𝓚) (cs : List Call) → X s → X (leaves 𝓚 s cs)
  leaves_keep_all X keeps s cs = leaves_keep X (λ c. Unit {0}) (λ s c u. keeps s c) s cs (each_any (λ c. tt) cs)

-- ---- one edge of a start and an event

abbrev OneEdgeIn : Machine graph_kind → Type 0
OneEdgeIn s = OneEdge s.bindings

pub fresh_single : (t : Tables) → OneEdgeIn (fresh graph_kind t)
unfolding fresh fresh_graph
fresh_single t = tt

pub leaves_single : (s : Machine graph_kind) (cs : List Call) → OneEdgeIn s → OneEdgeIn (leaves graph_kind s cs)
leaves_single =
    leaves_keep_all graph_kind OneEdgeIn
    (map_keeps graph_kind OneEdgeIn (λ t v. fresh_single t) (bind_always tt tt tt tt tt OneEdge one_edge_grows) (λ s s₁ e h. rw e.bindings h))

-- ---- at most 1,024 kept calls

-- a result is accepted with its value, if at all
pub always_is : {A : Type 0} (r : Result A) → Always any_number (λ a. r ≡ accept a) r
always_is (accept a) = accepts refl
always_is (refuse n) = refuses n tt

module _ (𝓚 : Kind) where
  abbrev FewKept : Machine 𝓚 → Type 0
  FewKept s = length s.kept ≤ most_kept

  -- a map or prefix call leaves the state, and keeps at most so many
  pub bind_few : (x : Binding) (s : Machine 𝓚) → Always any_number (λ s₁. (s₁.state ≡ s.state) × FewKept s₁) (bind 𝓚 x s)
  unfolding bind map_call prefix_call
  bind_few (Maps mode path st) s = always_bind (always_is _) (λ b _. always_more (λ s₁ h. h.1) (keep_always 𝓚 tt (Maps mode path st) s b))
  bind_few (Prefixes mode path os) s = always_bind (always_is _) (λ b _. always_more (λ s₁ h. h.1) (keep_always 𝓚 tt (Prefixes mode path os) s b))

  fresh_few : (t : Tables) → FewKept (fresh 𝓚 t)
  unfolding fresh
  fresh_few t = omega arith

  pub leaves_few : (s : Machine 𝓚) (cs : List Call) → FewKept s → FewKept (leaves 𝓚 s cs)
  leaves_few =
      leaves_keep_all 𝓚 FewKept
      (map_keeps 𝓚 FewKept (λ t v. fresh_few t) (λ x s h. always_more (λ s₁ e. e.1) (bind_few x s)) (λ s s₁ e h. rw e.kept h))

-- ---- a short trail

-- a key of 16 bits
abbrev pub Is16 : ℕ → Type 0
Is16 k = k ≤ largest

-- the call's key, if it has one, is of 16 bits
abbrev pub KeyIs16 : Call → Type 0
KeyIs16 (Open t) = Unit {0}
KeyIs16 (Map mode path st) = Unit {0}
KeyIs16 (Prefix mode path os) = Unit {0}
KeyIs16 (Press i) = Is16 i.key
KeyIs16 Pop = Unit {0}
KeyIs16 (Repeats q over) = Unit {0}
KeyIs16 Reset = Unit {0}
KeyIs16 (Change t xs) = Unit {0}

-- at most 64 keys, each of 16 bits
abbrev pub Short : List ℕ → Type 0
Short tr = (length tr ≤ most_trail) × Each Is16 tr

pub begins_bounded : {P : Type 0} (k : ℕ) (m : State P) → Is16 k → Short m.shared.trail → Bounded splits m.shared.tables 130 most_trail Is16 (k ∷ []) m
unfolding weight_by
begins_bounded k m h s =
    let tr = m.shared.trail in
    let a : length tr ≤ most_trail = s.0 in
    record { tables = refl; weighs = omega (arith, weight_16 tr s.1); few = omega arith; trails = a; tries = (h, tt); waits = s.1 }

rest_16 : (k : ℕ) → Is16 k → Is16 (rest_of k)
rest_16 k h = omega arith

pub round_keeps : {P : Type 0} (nav : Navigator P) (t : Tables) (k : ℕ) (ks : List ℕ) (m : State P) → Bounded splits t 130 most_trail Is16 (k ∷ ks) m
    → Always any_number (λ r. Bounded splits t 130 most_trail Is16 r.0 r.1) (round nav k ks m)
round_keeps nav t k = round_bounded nav tt tt tt tt splits t 130 most_trail (omega arith) Is16 (omega arith) rest_16 k (halves k)

module _ (𝓚 : Kind) where
  abbrev ShortTrail : Machine 𝓚 → Type 0
  ShortTrail s = Short s.state.shared.trail

  carried_short : (s next : Machine 𝓚) → ShortTrail s → ShortTrail (carry_over 𝓚 s next)
  unfolding carry_over
  carried_short s next h = resume_keeps (navigate 𝓚 next) (λ c. Short c.trail) _ h (omega arith, tt)

  call_short : (s : Machine 𝓚) (c : Call) → KeyIs16 c → ShortTrail s → ShortTrail (call 𝓚 s c).0
  unfolding fresh fresh_shared key_call input_key
  call_short s c k h =
      by_each 𝓚 (λ c r. KeyIs16 c → ShortTrail r.0) s
      (λ t _. settled_keeps 𝓚 ShortTrail s h (always_more (λ x e. rw e.0 (omega arith, tt)) (open_always 𝓚 tt t)))
      (λ t xs _. settled_keeps 𝓚 ShortTrail s h (change_always 𝓚 tt ShortTrail t xs s (λ v. always_more (λ next e. carried_short s next h) (always_is (bind_all 𝓚 xs (fresh 𝓚 t))))))
      (λ c x n _. settled_keeps 𝓚 ShortTrail s h (always_more (λ s₁ e. rw e.0 h) (bind_few 𝓚 x s)))
      (λ i k₁. pressed_keeps 𝓚 ShortTrail s _ h (λ m b. (b.trails, b.waits))
      (loop_bounded (navigate 𝓚 s) tt tt tt tt splits s.state.shared.tables 130 most_trail (omega arith) Is16 (omega arith) rest_16 tt halves i.budget 0 (i.key ∷ []) s.state (begins_bounded i.key s.state k₁ h)))
      (λ c s₁ x n e _. rw e.1 h)
      c k

  pub leaves_short : (s : Machine 𝓚) (cs : List Call) → Each KeyIs16 cs → Short s.state.shared.trail → Short (leaves 𝓚 s cs).state.shared.trail
  leaves_short = leaves_keep 𝓚 ShortTrail KeyIs16 call_short
