-- A machine's bindings are what its kept calls make of a fresh one with its tables. So it is freshly, and each call keeps it so: a
-- binding call that is accepted does to the bindings what it would do from any state, and is kept behind the others; open begins
-- anew, and so does a change, with bindings; every other call leaves tables, bindings and kept calls as they are (`map_keeps` of
-- Reached).
use Prim.Native.Nat.{ℕ}
use mathlib.Core.Path.{◌≡◌, refl, sym, ap, ap₂, ◌∙◌, subst}
use mathlib.Core.Bool.{Bool, true, false}
use mathlib.Core.List.{List, [], ◌∷◌, ◌++◌, append-nil, append_assoc, map}
use lib.Dec.{T, ltb}
use lib.ListN.{length}
use Rattle.rules.specs.Basics.{Result, accept, refuse, ◌>>=◌, unless}
use Rattle.rules.specs.Values.{most_kept, Binding, Maps, Prefixes, map_valid, prefix_valid, binding_valid}
use Rattle.rules.specs.Tables.{Tables, tables_valid}
use Rattle.rules.specs.KeyLoop.{fresh_shared, State}
use Rattle.rules.specs.Calls.{Kind, Machine, with_state, fresh, keep, map_call, prefix_call, bind, bind_all, settled, call, leaves, Call, Map, Prefix}
use Rattle.rules.proofs.Tests.{is_T}
use Rattle.rules.proofs.Numbers.{never}
use Rattle.rules.proofs.Results.{always_more}
use Rattle.rules.proofs.Refusals.{SameMap}
use Rattle.rules.proofs.Reached.{always_is, map_keeps, leaves_keep_all}

-- ---- an accepted binding call

-- what was accepted went on with a value
pub passed : {A B : Type 0} (r : Result A) (f : A → Result B) (b : B) → (r >>= f) ≡ accept b → (a : A) × (r ≡ accept a) × (f a ≡ accept b)
passed (accept a) f b e = (a, refl, e)
passed (refuse n) f b e = never n b e

tested : {A : Type 0} (t : Bool) (n : ℕ) (r : Result A) (a : A) → unless t n r ≡ accept a → T t × (r ≡ accept a)
tested true n r a e = (tt, e)
tested false n r a e = never n a e

module _ (𝓚 : Kind) where
  -- it is in range; it is kept behind the others and the state stays; and from any other state it does the same
  pub record Bound (x : Binding) (valid : Bool) (adds : Machine 𝓚 → Result (Machine 𝓚)) (s s₁ : Machine 𝓚) : Type 0 where
    pub holds : T valid
    pub kept : s₁.kept ≡ s.kept ++ (x ∷ [])
    pub state : s₁.state ≡ s.state
    pub again : (m : State 𝓚.Place) → adds (with_state 𝓚 s m) ≡ accept (with_state 𝓚 s₁ m)

  module _ (x : Binding) (valid : Bool) (add : 𝓚.Bindings → Result 𝓚.Bindings) where
    abbrev adds : Machine 𝓚 → Result (Machine 𝓚)
    adds s = unless valid 1 (add s.bindings) >>= keep 𝓚 x s

    added : (s s₁ : Machine 𝓚) → adds s ≡ accept s₁ → Bound x valid adds s s₁
    unfolding keep
    added s s₁ e =
        let p = passed (unless valid 1 (add s.bindings)) (keep 𝓚 x s) s₁ e in
        let v = tested valid 1 (add s.bindings) p.0 p.1 in
        let k = tested (ltb (length s.kept) most_kept) 11 _ s₁ p.2 in
        let z : record { bindings = p.0; kept = s.kept ++ (x ∷ []); state = s.state } ≡ s₁ = cc in
        record {
          holds = v.0;
          kept = ap (λ s. s.kept) (sym z);
          state = ap (λ s. s.state) (sym z);
          again = λ m. rw (p.1, is_T (ltb (length s.kept) most_kept) k.0) (ap (λ s. accept (with_state 𝓚 s m)) z);
        }

  pub bound : (x : Binding) (s s₁ : Machine 𝓚) → bind 𝓚 x s ≡ accept s₁ → Bound x (binding_valid x) (bind 𝓚 x) s s₁
  unfolding bind binding_valid map_call prefix_call
  bound (Maps mode path st) s s₁ e = added (Maps mode path st) (map_valid mode path st) (𝓚.map_in mode path st) s s₁ e
  bound (Prefixes mode path st) s s₁ e = added (Prefixes mode path st) (prefix_valid mode path st) (𝓚.prefix_in mode path st) s s₁ e

  pub bind_all_kept : (xs : List Binding) (s s₁ : Machine 𝓚) → bind_all 𝓚 xs s ≡ accept s₁ → (s₁.kept ≡ s.kept ++ xs) × (s₁.state ≡ s.state)
  unfolding bind_all
  bind_all_kept [] s s₁ e = let z : s ≡ s₁ = cc in (ap (λ s. s.kept) (sym z) ∙ sym (append-nil s.kept), ap (λ s. s.state) (sym z))
  bind_all_kept (x ∷ xs) s s₁ e =
      let p = passed (bind 𝓚 x s) (λ s. bind_all 𝓚 xs s) s₁ e in
      let h = bound x s p.0 p.1 in
      let k = bind_all_kept xs p.0 s₁ p.2 in
      (k.0 ∙ ap (λ ys. ys ++ xs) h.kept ∙ append_assoc s.kept (x ∷ []) xs, k.1 ∙ h.state)

  bind_all_last : (xs : List Binding) (x : Binding) (s : Machine 𝓚) → bind_all 𝓚 (xs ++ (x ∷ [])) s ≡ (bind_all 𝓚 xs s >>= bind 𝓚 x)
  unfolding bind_all
  bind_all_last [] x s = last (bind 𝓚 x s)
    where
      last : (r : Result (Machine 𝓚)) → (r >>= λ s. accept s) ≡ r
      last (accept s) = refl
      last (refuse n) = refl
  bind_all_last (y ∷ ys) x s = go (bind 𝓚 y s) (λ s. bind_all_last ys x s)
    where
      go : (r : Result (Machine 𝓚)) → ((s : Machine 𝓚) → bind_all 𝓚 (ys ++ (x ∷ [])) s ≡ (bind_all 𝓚 ys s >>= bind 𝓚 x)) → (r >>= λ s. bind_all 𝓚 (ys ++ (x ∷ [])) s) ≡ ((r >>= λ s. bind_all 𝓚 ys s) >>= bind 𝓚 x)
      go (accept s) k = k s
      go (refuse n) k = refl

  -- ---- every machine that a list of calls leaves

  -- the machine with its tables, bindings and kept calls, and all else as it was fresh
  abbrev pub rested : Machine 𝓚 → Machine 𝓚
  rested s = with_state 𝓚 s (fresh 𝓚 s.state.shared.tables).state

  -- open accepts its tables, and its kept calls bring the fresh machine to its bindings
  pub record Replays (s : Machine 𝓚) : Type 0 where
    pub valid : T (tables_valid s.state.shared.tables)
    pub made : bind_all 𝓚 s.kept (fresh 𝓚 s.state.shared.tables) ≡ accept (rested s)

  pub fresh_replays : (t : Tables) → T (tables_valid t) → Replays (fresh 𝓚 t)
  unfolding fresh fresh_shared bind_all
  fresh_replays t v = record { valid = v; made = refl }

  bind_replays : (x : Binding) (s s₁ : Machine 𝓚) → bind 𝓚 x s ≡ accept s₁ → Replays s → Replays s₁
  bind_replays x s s₁ e h =
      let b = bound x s s₁ e in
      let f = fresh 𝓚 s.state.shared.tables in
      record {
        valid = subst (λ (m : State 𝓚.Place). T (tables_valid m.shared.tables)) (sym b.state) h.valid;
        made =
            ap₂ (λ xs (m : State 𝓚.Place). bind_all 𝓚 xs (fresh 𝓚 m.shared.tables)) b.kept b.state ∙ bind_all_last s.kept x f ∙ ap (λ r. r >>= bind 𝓚 x) h.made
            ∙ b.again f.state ∙ ap (λ (m : State 𝓚.Place). accept (with_state 𝓚 s₁ (fresh 𝓚 m.shared.tables).state)) (sym b.state);
      }

  -- what leaves the map as it was
  same_replays : (s s₁ : Machine 𝓚) → Replays s → SameMap s s₁ → Replays s₁
  same_replays s s₁ h e = record { valid = rw e.tables h.valid; made = rw (e.tables, e.kept, e.bindings) h.made }

  pub leaves_replays : (s : Machine 𝓚) (cs : List Call) → Replays s → Replays (leaves 𝓚 s cs)
  leaves_replays =
      leaves_keep_all 𝓚 Replays
      (map_keeps 𝓚 Replays fresh_replays (λ x s h. always_more (λ s₁ e. bind_replays x s s₁ e h) (always_is (bind 𝓚 x s))) (λ s s₁ e h. same_replays s s₁ h e))

-- ---- bindings are calls

-- the call that binds so
abbrev pub call_by : Binding → Call
call_by (Maps mode path st) = Map mode path st
call_by (Prefixes mode path st) = Prefix mode path st

pub bound_by_calls : (𝓚 : Kind) (xs : List Binding) (s s₁ : Machine 𝓚) → bind_all 𝓚 xs s ≡ accept s₁ → leaves 𝓚 s (map call_by xs) ≡ s₁
unfolding bind_all leaves bind call settled
bound_by_calls 𝓚 [] s s₁ e = cc
bound_by_calls 𝓚 (x ∷ xs) s s₁ e =
    let p = passed (bind 𝓚 x s) (bind_all 𝓚 xs) s₁ e in
    ap (λ u. leaves 𝓚 u (map call_by xs)) (one x p.0 p.1) ∙ bound_by_calls 𝓚 xs p.0 s₁ p.2
  where
    one : (x : Binding) (u : Machine 𝓚) → bind 𝓚 x s ≡ accept u → (call 𝓚 s (call_by x)).0 ≡ u
    one (Maps mode path st) u e = rw e refl
    one (Prefixes mode path st) u e = rw e refl
