-- Two ways of following keys that agree place by place give the same key results: the loop looks at a place only through
-- its turn, its mode and the roots, so two states that differ in the place alone stay so, round by round.
-- What is carried along besides: the tables are such as open accepts, the entered mode is a mode, and no refusal is 3 or 4.
use Rattle.std.specs.Prelude.{if◌then◌else◌}
use Prim.Native.Nat.{ℕ, zero, suc}
use mathlib.Core.Path.{◌≡◌}
use mathlib.Core.Bool.{Bool, true, false, not, ◌&&◌}
use mathlib.Core.Option.{Option, none, some, get_or}
use mathlib.Core.List.{List, [], ◌∷◌, ◌++◌}
use lib.Dec.{T, ltb, leb, eqb}
use lib.ListN.{length, drop}
use Rattle.rules.specs.Basics.{Result, accept, refuse, ◌>>=◌, unless, every, present}
use Rattle.rules.specs.Values.{most_classes, mode_count, most_actions, most_trail, decomposes, is_mode, default_action, Event, Step}
use Rattle.rules.specs.Tables.{ClassEntry, class_valid, ModeEntry, no_entry, mode_entry, mode_valid, Tables, tables_valid}
use Rattle.rules.specs.KeyLoop.{Shared, with_mode, with_trail, give_all}
use Rattle.rules.specs.KeyLoop.{InputResult, Again, ClearTrail, Consumed, NeedMore, Unmapped, RunStep, RetryAfter, Turn, Navigator, State, KeyResult, run_hook, needs_more, set_mark, or_default, at, proceed, goto_mode, unmapped, step_to, step, after, round, loop, walk, walked, resume}
use Rattle.rules.proofs.Tests.{T_and}
use Rattle.rules.proofs.Results.{Always, accepts, refuses, give_all_keeps, hook_keeps, Runs}

-- ---- what holds of two results

-- no refusal of the list reader: neither 3 (no edge left) nor 4 (another mode)
abbrev pub is_other : ℕ → Bool
is_other n = not (eqb 3 n) && not (eqb 4 n)

-- both accept, with values that are related, or both refuse with one number
pub data Both {A B : Type 0} (X : A → B → Type 0) : Result A → Result B → Type 0 where
  both_accept : {a : A} {b : B} → X a b → Both X (accept a) (accept b)
  both_refuse : (n : ℕ) → T (is_other n) → Both X (refuse n) (refuse n)

pub both_bind : {A B C D : Type 0} {X : A → B → Type 0} {Y : C → D → Type 0} {r : Result A} {s : Result B} {f : A → Result C} {g : B → Result D}
    → Both X r s → ((a : A) (b : B) → X a b → Both Y (f a) (g b)) → Both Y (r >>= f) (s >>= g)
both_bind (both_accept {a = a} {b = b} x) k = k a b x
both_bind (both_refuse n o) k = both_refuse n o

-- one result, used twice
pub both_use : {A C D : Type 0} {X : A → Type 0} {Y : C → D → Type 0} {r : Result A} {f : A → Result C} {g : A → Result D}
    → Always is_other X r → ((a : A) → X a → Both Y (f a) (g a)) → Both Y (r >>= f) (r >>= g)
both_use (accepts {a = a} h) k = k a h
both_use (refuses n o) k = both_refuse n o

pub both_unless : {A B : Type 0} {X : A → B → Type 0} (b : Bool) (n : ℕ) {r : Result A} {s : Result B} → T (is_other n) → (T b → Both X r s)
    → Both X (unless b n r) (unless b n s)
both_unless true n o h = h tt
both_unless false n o h = both_refuse n o

both_if : {A B : Type 0} {X : A → B → Type 0} (b : Bool) {r r' : Result A} {s s' : Result B} → Both X r s → Both X r' s'
    → Both X (if b then r else r') (if b then s else s')
both_if true h k = h
both_if false h k = k

-- ---- the tables and the mode of a machine are in range, and a push keeps both

abbrev pub Fits : Shared → Type 0
Fits c = T (tables_valid c.tables) × T (is_mode c.mode)

give_all_fits : (acts : List ℕ) (c : Shared) → Fits c → Always is_other Fits (give_all acts c)
give_all_fits acts c h = give_all_keeps tt tt (λ t m _. T (tables_valid t) × T (is_mode m)) acts c h

-- ---- the modes that are named are modes

or_mode : (o : Option ℕ) (m : ℕ) → T (present is_mode o) → T (is_mode m) → T (is_mode (get_or o m))
unfolding present
or_mode none m h k = k
or_mode (some n) m h k = h

entry_fits : (es : List ModeEntry) → T (every mode_valid es) → (m : ℕ) → T (present is_mode (mode_entry es m).next)
unfolding every mode_entry mode_valid no_entry present
entry_fits [] h m = tt
entry_fits (e ∷ es) h zero =
    (T_and (leb (length e.unmapped) most_actions) _ (T_and (leb (length e.enter) most_actions) _ (T_and (mode_valid e) (every mode_valid es) h).0).1).1
entry_fits (e ∷ es) h (suc m) = entry_fits es (T_and (mode_valid e) (every mode_valid es) h).1 m

next_fits : (t : Tables) → T (tables_valid t) → (m : ℕ) → T (present is_mode (mode_entry t.modes m).next)
unfolding tables_valid
next_fits t h m =
    let a = (T_and ((leb (length t.classes) most_classes && every class_valid t.classes) && (leb (length t.modes) mode_count && every mode_valid t.modes)) _ h).0 in
    let b = (T_and (leb (length t.classes) most_classes && every class_valid t.classes) _ a).1 in
    entry_fits t.modes (T_and (leb (length t.modes) mode_count) (every mode_valid t.modes) b).1 m

-- the step that is run, if any, has a mode for its next mode
abbrev pub ResultFits : InputResult → Type 0
ResultFits = Runs (λ s. T (present is_mode s.next))

mark_fits : (o : Option ℕ) (c : Shared) → Fits c → Fits (set_mark o c)
unfolding set_mark
mark_fits none c h = h
mark_fits (some x) c h = h

hook_fits : (o : Option Event) (k : ℕ) (c : Shared) → Fits c → Always is_other Fits (run_hook o k c)
hook_fits o k c h = hook_keeps tt (λ t m _. T (tables_valid t) × T (is_mode m)) o k c h

-- ---- what is asked of the two

module _ {P Q : Type 0} (R : P → Q → Type 0) where
  pub record SameTurn (a : Turn P) (b : Turn Q) : Type 0 where
    pub event : a.event ≡ b.event
    pub place : R a.place b.place
    pub result : a.result ≡ b.result
    pub fits : ResultFits a.result

  pub record Agree (np : Navigator P) (nq : Navigator Q) : Type 0 where
    pub roots : (m : ℕ) → T (is_mode m) → R (np.root m) (nq.root m)
    pub modes : (p : P) (q : Q) → R p q → np.mode_of p ≡ nq.mode_of q
    pub turns : (cs : List ClassEntry) (p : P) (q : Q) → R p q → (k : ℕ) → SameTurn (np.turn cs p k) (nq.turn cs q k)

  -- two states that differ in the place alone
  pub data Same : State P → State Q → Type 0 where
    same : {p : P} {q : Q} {c : Shared} → R p q → Fits c → Same (at p c) (at q c)

  -- the same keys left to try, in such states
  pub data SameRun : List ℕ × State P → List ℕ × State Q → Type 0 where
    same_run : (ks : List ℕ) {m : State P} {n : State Q} → Same m n → SameRun (ks, m) (ks, n)

  pub data SameKey : KeyResult P → KeyResult Q → Type 0 where
    same_key : (made : ℕ) {x : Result (State P)} {y : Result (State Q)} → Both Same x y
        → SameKey (record { rounds = made; result = x }) (record { rounds = made; result = y })

  -- two walks come to such places, or neither comes to one
  data SameWalk : Option P → Option Q → Type 0 where
    to_places : {p : P} {q : Q} → R p q → SameWalk (some p) (some q)
    to_none : SameWalk none none

module _ {P Q : Type 0} (R : P → Q → Type 0) (np : Navigator P) (nq : Navigator Q) (𝓐 : Agree R np nq) where
  pub goto_same : (m : ℕ) → T (is_mode m) → (c : Shared) → Fits c → Both (Same R) (goto_mode np m c) (goto_mode nq m c)
  unfolding goto_mode
  goto_same m hm c h =
      both_use (give_all_fits (mode_entry c.tables.modes m).enter (with_mode m c) (h.0, hm)) (λ c₁ h₁. both_accept (same (𝓐.roots m hm) h₁))

  -- actions, then a mode
  give_same : (acts : List ℕ) (o : Option ℕ) → T (present is_mode o) → (c : Shared) → Fits c
      → Both (Same R) (give_all acts c >>= λ c₁. goto_mode np (get_or o c₁.mode) c₁) (give_all acts c >>= λ c₁. goto_mode nq (get_or o c₁.mode) c₁)
  give_same acts o ho c h =
      both_use (give_all_fits acts c h) (λ c₁ h₁. goto_same (get_or o c₁.mode) (or_mode o c₁.mode ho h₁.1) c₁ h₁)

  module _ (p : P) (q : Q) (r : R p q) where
    step_to_same : (acts : List ℕ) (o : Option ℕ) → T (present is_mode o) → (c : Shared) → Fits c → Both (Same R) (step_to np acts o (at p c)) (step_to nq acts o (at q c))
    unfolding step_to
    step_to_same [] none ho c h = both_accept (same r h)
    step_to_same [] (some m) ho c h = give_same (default_action ∷ []) (some m) ho c h
    step_to_same (a ∷ rest) o ho c h = give_same (a ∷ rest) o ho c h

    step_same : (s : Step) → T (present is_mode s.next) → (c : Shared) → Fits c → Both (Same R) (step np s (at p c)) (step nq s (at q c))
    unfolding step
    step_same s hs c h = step_to_same s.actions s.next hs (set_mark s.mark c) (mark_fits s.mark c h)

    unmapped_same : (c : Shared) → Fits c → Both (Same R) (unmapped np (at p c)) (unmapped nq (at q c))
    unfolding unmapped
    unmapped_same c h =
        let e = mode_entry c.tables.modes (np.mode_of p) in
        rw (← (𝓐.modes p q r)) (give_same (or_default e.unmapped) e.next (next_fits c.tables h.0 (np.mode_of p)) c h)

    after_same : (x : InputResult) → ResultFits x → (k : ℕ) (ks : List ℕ) (c : Shared) → Fits c → Both (SameRun R) (after np x k ks (at p c)) (after nq x k ks (at q c))
    unfolding after
    after_same Again hx k ks c h = both_accept (same_run (k ∷ ks) (same r h))
    after_same ClearTrail hx k ks c h = both_accept (same_run (k ∷ ks) (same r h))
    after_same Consumed hx k ks c h = both_accept (same_run ks (same r h))
    after_same NeedMore hx k ks c h = both_unless (ltb (length c.trail) most_trail) 7 tt (λ _. both_accept (same_run ks (same r h)))
    after_same Unmapped hx k ks c h =
        both_if (decomposes k) (both_accept (same_run _ (same r h)))
        (both_bind (unmapped_same (with_trail [] c) h) (λ m n w. both_accept (same_run (drop 1 (c.trail ++ (k ∷ [])) ++ ks) w)))
    after_same (RunStep s) hx k ks c h = both_bind (step_same s hx (with_trail [] c) h) (λ m n w. both_accept (same_run ks w))
    after_same (RetryAfter s) hx k ks c h = both_bind (step_same s hx (with_trail [] c) h) (λ m n w. both_accept (same_run (k ∷ ks) w))

  round_same : (k : ℕ) (ks : List ℕ) (m : State P) (n : State Q) → Same R m n → Both (SameRun R) (round np k ks m) (round nq k ks n)
  unfolding round
  round_same k ks m n (same {p = p} {q = q} {c = c} r h) =
      let w = 𝓐.turns c.tables.classes p q r k in
      rw (← w.event, ← w.result)
      (both_use (hook_fits (np.turn c.tables.classes p k).event k c h) (λ c₁ h₁. after_same _ _ w.place _ w.fits k ks c₁ h₁))

  pub loop_same : (left made : ℕ) (ks : List ℕ) (m : State P) (n : State Q) → Same R m n → SameKey R (loop np left made ks m) (loop nq left made ks n)
  unfolding loop proceed
  loop_same zero made [] m n w = same_key made (both_accept w)
  loop_same zero made (k ∷ ks) m n w = same_key made (both_refuse 8 tt)
  loop_same (suc left) made [] m n w = same_key made (both_accept w)
  loop_same (suc left) made (k ∷ ks) m n w = go (λ ks₁ m₁ n₁ w₁. loop_same left (suc made) ks₁ m₁ n₁ w₁) (round_same k ks m n w)
    where
      go : ((ks₁ : List ℕ) (m₁ : State P) (n₁ : State Q) → Same R m₁ n₁ → SameKey R (loop np left (suc made) ks₁ m₁) (loop nq left (suc made) ks₁ n₁))
          → {x : Result (List ℕ × State P)} {y : Result (List ℕ × State Q)} → Both (SameRun R) x y
          → SameKey R (proceed (suc made) (λ ks₁ m₁. loop np left (suc made) ks₁ m₁) x) (proceed (suc made) (λ ks₁ m₁. loop nq left (suc made) ks₁ m₁) y)
      go on (both_accept (same_run ks₁ w₁)) = on ks₁ _ _ w₁
      go on (both_refuse n₁ o) = same_key _ (both_refuse n₁ o)

  -- ---- the trail in a new map

  walked_same : {o : Option P} {u : Option Q} → SameWalk R o u → (c : Shared) → Fits c → Same R (walked np o c) (walked nq u c)
  unfolding walked
  walked_same (to_places r) c h = same r h
  walked_same to_none c h = same (𝓐.roots c.mode h.1) h

  walk_same : (cs : List ClassEntry) (ks : List ℕ) (p : P) (q : Q) → R p q → SameWalk R (walk np cs ks p) (walk nq cs ks q)
  unfolding walk
  walk_same cs [] p q r = to_places r
  walk_same cs (k ∷ ks) p q r =
      let w = 𝓐.turns cs p q r k in
      rw (← w.result) (go (needs_more (np.turn cs p k).result) (walk_same cs ks _ _ w.place))
    where
      go : (b : Bool) {o : Option P} {u : Option Q} → SameWalk R o u → SameWalk R (if b then o else none) (if b then u else none)
      go true w = w
      go false w = to_none

  pub resume_same : (c : Shared) → Fits c → Same R (resume np c) (resume nq c)
  unfolding resume
  resume_same c h = walked_same (walk_same c.tables.classes c.trail (np.root c.mode) (nq.root c.mode) (𝓐.roots c.mode h.1)) c h
