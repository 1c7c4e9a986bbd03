-- One key on any machine: its loop refuses with 8, 12, 6, 5 or 7 alone, the tables stay as they are, and the keys still to try
-- and those on the trail together never weigh more than at the start. A key weighs 1, and 1 more for each time that it can
-- decompose; a round puts back at most what it took, and a key that decomposes gives two that weigh no more. When a trail is put
-- back, it has lost its first key, which weighs 1 at least: so the keys to try alone weigh less. First, over any predicate, since
-- a round does nothing else: what giving actions, entering a mode, the hook and a step's mark keep, a round keeps; and what rounds
-- keep, the loop keeps.
use Prim.Native.Nat.{ℕ, zero, suc, ◌+◌, ◌*◌, ◌/◌, ◌≤◌}
use native.Mathlib.Omega.{arith}
use mathlib.Core.Path.{◌≡◌, refl}
use mathlib.Core.Bool.{Bool}
use mathlib.Core.Option.{Option, none, some, get_or}
use mathlib.Core.List.{List, [], ◌∷◌, ◌++◌}
use lib.Dec.{T, ltb, ltb→lt, leb→le}
use lib.ListN.{length, drop, length-append}
use Rattle.rules.specs.Basics.{Result}
use Rattle.rules.specs.Values.{largest, composed, most_trail, decomposes, first_key, rest_of, default_action, Event, Step}
use Rattle.rules.specs.Tables.{Tables, mode_entry}
use Rattle.rules.specs.KeyLoop.{Shared, with_mode, with_trail, give_all, run_hook, InputResult, Again, ClearTrail, Consumed, NeedMore, Unmapped, RunStep, RetryAfter, Navigator, State}
use Rattle.rules.specs.KeyLoop.{set_mark, or_default, at, clear_trail, proceed, goto_mode, unmapped, step_to, step, after, round, loop}
use Rattle.rules.proofs.Weights.{Each, each_append, each_drop, each_map, weight_by, weight_append, weight_behind, weight_most}
use Rattle.rules.proofs.Results.{Always, accepts, refuses, always_bind, unless_so, always_unless, if_so, always_if, give_all_keeps, hook_keeps, Runs}

-- ---- weights

-- the two keys that a key decomposes into weigh no more than it, where `more` says what a key weighs beyond 1
abbrev pub Halves : (ℕ → ℕ) → ℕ → Type 0
Halves more k = composed ≤ k → 1 + more first_key + more (rest_of k) ≤ more k

-- how often a key can decompose, by its number alone
abbrev pub splits : ℕ → ℕ
splits k = k / composed

abbrev pub weight : List ℕ → ℕ
weight = weight_by splits

pub halves : (k : ℕ) → Halves splits k
halves k h = omega arith

-- a key of 16 bits weighs at most 2
pub weight_16 : (xs : List ℕ) → Each (λ k. k ≤ largest) xs → weight xs ≤ 2 * length xs
weight_16 xs h = weight_most splits xs (each_map (λ k l. omega arith) xs h)

-- ---- what giving and entering a mode keep, steps and unmapped keys do

module _ {P : Type 0} (nav : Navigator P) {N : ℕ → Bool} (Y : Shared → Type 0)
    (gives : (acts : List ℕ) (c : Shared) → Y c → Always N Y (give_all acts c)) (enters : (mode : ℕ) (c : Shared) → Y c → Y (with_mode mode c)) where
  abbrev HasIn : State P → Type 0
  HasIn m = Y m.shared

  pub goto_keeps : (mode : ℕ) (c : Shared) → Y c → Always N HasIn (goto_mode nav mode c)
  unfolding goto_mode
  goto_keeps mode c h = always_bind (gives (mode_entry c.tables.modes mode).enter (with_mode mode c) (enters mode c h)) (λ c₁ k. accepts k)

  pub unmapped_keeps : (m : State P) → Y m.shared → Always N HasIn (unmapped nav m)
  unfolding unmapped
  unmapped_keeps m h =
      let e = mode_entry m.shared.tables.modes (nav.mode_of m.place) in
      always_bind (gives (or_default e.unmapped) m.shared h) (λ c k. goto_keeps (get_or e.next c.mode) c k)

  step_to_keeps : (acts : List ℕ) (o : Option ℕ) (m : State P) → Y m.shared → Always N HasIn (step_to nav acts o m)
  unfolding step_to
  step_to_keeps [] none m h = accepts h
  step_to_keeps [] (some mode) m h = always_bind (gives (default_action ∷ []) m.shared h) (λ c k. goto_keeps mode c k)
  step_to_keeps (a ∷ rest) o m h = always_bind (gives (a ∷ rest) m.shared h) (λ c k. goto_keeps (get_or o c.mode) c k)

  -- from its mark on
  pub step_keeps : (s : Step) (m : State P) → Y (set_mark s.mark m.shared) → Always N HasIn (step nav s m)
  unfolding step
  step_keeps s m h = step_to_keeps s.actions s.next (at m.place (set_mark s.mark m.shared)) h

  -- ---- and a round does, where its hook and its step's mark do

  abbrev pub MarkKeeps : Step → Type 0
  MarkKeeps s = (c : Shared) → Y c → Y (set_mark s.mark c)

  module _ (seven : T (N 7)) (trails : (tr : List ℕ) (c : Shared) → Y c → Y (with_trail tr c)) where
    after_keeps : (x : InputResult) → Runs MarkKeeps x → (k : ℕ) (ks : List ℕ) (m : State P) → Y m.shared → Always N (λ r. Y r.1.shared) (after nav x k ks m)
    unfolding after
    after_keeps Again u k ks m h = accepts h
    after_keeps ClearTrail u k ks m h = accepts (trails [] m.shared h)
    after_keeps Consumed u k ks m h = accepts (trails [] m.shared h)
    after_keeps NeedMore u k ks m h = always_unless (ltb (length m.shared.trail) most_trail) 7 seven (accepts (trails _ m.shared h))
    after_keeps Unmapped u k ks m h = always_if (decomposes k) (accepts h) (always_bind (unmapped_keeps (clear_trail m) (trails [] m.shared h)) (λ m₁ i. accepts i))
    after_keeps (RunStep s) u k ks m h = always_bind (step_keeps s (clear_trail m) (u _ (trails [] m.shared h))) (λ m₁ i. accepts i)
    after_keeps (RetryAfter s) u k ks m h = always_bind (step_keeps s (clear_trail m) (u _ (trails [] m.shared h))) (λ m₁ i. accepts i)

    pub any_round_keeps : (k : ℕ) (ks : List ℕ) (m : State P) → ((o : Option Event) (c : Shared) → Y c → Always N Y (run_hook o k c))
        → Runs MarkKeeps (nav.turn m.shared.tables.classes m.place k).result → Y m.shared → Always N (λ r. Y r.1.shared) (round nav k ks m)
    unfolding round
    any_round_keeps k ks m u v h =
        let turn = nav.turn m.shared.tables.classes m.place k in
        always_bind (u turn.event m.shared h) (λ c i. after_keeps turn.result v k ks (at turn.place c) i)

-- ---- so they leave the tables and the trail as they are

-- what holds of tables and trail
abbrev Has : (Tables → List ℕ → Type 0) → Shared → Type 0
Has Y c = Y c.tables c.trail

mark_has : (Y : Tables → List ℕ → Type 0) (o : Option ℕ) (c : Shared) → Has Y c → Has Y (set_mark o c)
unfolding set_mark
mark_has Y none c h = h
mark_has Y (some x) c h = h

module _ {P : Type 0} (nav : Navigator P) {N : ℕ → Bool} (six : T (N 6)) (five : T (N 5)) (Y : Tables → List ℕ → Type 0) where
  give : (acts : List ℕ) (c : Shared) → Has Y c → Always N (Has Y) (give_all acts c)
  give acts c h = give_all_keeps six five (λ t _ tr. Y t tr) acts c h

  pub goto_has : (mode : ℕ) (c : Shared) → Has Y c → Always N (λ m. Has Y m.shared) (goto_mode nav mode c)
  goto_has = goto_keeps nav (Has Y) give (λ mode c h. h)

  unmapped_has : (m : State P) → Has Y m.shared → Always N (λ m₁. Has Y m₁.shared) (unmapped nav m)
  unmapped_has = unmapped_keeps nav (Has Y) give (λ mode c h. h)

  step_has : (s : Step) (m : State P) → Has Y m.shared → Always N (λ m₁. Has Y m₁.shared) (step nav s m)
  step_has s m h = step_keeps nav (Has Y) give (λ mode c h. h) s m (mark_has Y s.mark m.shared h)

-- ---- the loop keeps what every round keeps of the keys still to try and the state

module _ {P : Type 0} (nav : Navigator P) {N : ℕ → Bool} (eight : T (N 8)) (I : List ℕ → State P → Type 0)
    (rounds : (k : ℕ) (ks : List ℕ) (m : State P) → I (k ∷ ks) m → Always N (λ r. I r.0 r.1) (round nav k ks m)) where
  pub loop_keeps : (left made : ℕ) (ks : List ℕ) (m : State P) → I ks m → Always N (I []) (loop nav left made ks m).result
  unfolding loop proceed
  loop_keeps zero made [] m h = accepts h
  loop_keeps zero made (k ∷ ks) m h = refuses 8 eight
  loop_keeps (suc left) made [] m h = accepts h
  loop_keeps (suc left) made (k ∷ ks) m h = go (λ ks₁ m₁ h₁. loop_keeps left (suc made) ks₁ m₁ h₁) (rounds k ks m h)
    where
      go : ((ks₁ : List ℕ) (m₁ : State P) → I ks₁ m₁ → Always N (I []) (loop nav left (suc made) ks₁ m₁).result)
          → {x : Result (List ℕ × State P)} → Always N (λ r. I r.0 r.1) x
          → Always N (I []) (proceed (suc made) (λ ks₁ m₁. loop nav left (suc made) ks₁ m₁) x).result
      go on (accepts {a = r} h₁) = on r.0 r.1 h₁
      go on (refuses n o) = refuses n o

-- ---- a round

-- Keys to try and a state with tables t: with the trail the keys weigh at most w, and without it less; at most l keys are on the
-- trail, and K holds of each key
pub record Bounded {P : Type 0} (more : ℕ → ℕ) (t : Tables) (w l : ℕ) (K : ℕ → Type 0) (ks : List ℕ) (m : State P) : Type 0 where
  pub tables : m.shared.tables ≡ t
  pub weighs : weight_by more ks + weight_by more m.shared.trail ≤ w
  pub few : 1 + weight_by more ks ≤ w
  pub trails : length m.shared.trail ≤ l
  pub tries : Each K ks
  pub waits : Each K m.shared.trail

module _ {P : Type 0} {more : ℕ → ℕ} {t : Tables} {w l : ℕ} {K : ℕ → Type 0} where
  -- with no trail
  cleared : (ks : List ℕ) (m : State P) → (m.shared.tables ≡ t) × (m.shared.trail ≡ []) → 1 + weight_by more ks ≤ w → Each K ks → Bounded more t w l K ks m
  unfolding weight_by
  cleared ks m (b, e) h k = record { tables = b; weighs = rw e (omega arith); few = h; trails = rw e (omega arith); tries = k; waits = rw e tt }

module _ {P : Type 0} (nav : Navigator P) {N : ℕ → Bool} (twelve : T (N 12)) (six : T (N 6)) (five : T (N 5)) (seven : T (N 7))
    (more : ℕ → ℕ) (t : Tables) (w l : ℕ) (room : most_trail ≤ l) (K : ℕ → Type 0) (first : K first_key) (rest : (k : ℕ) → K k → K (rest_of k)) where
  after_bounded : (x : InputResult) (k : ℕ) → Halves more k → (ks : List ℕ) (m : State P) → Bounded more t w l K (k ∷ ks) m → Always N (λ r. Bounded more t w l K r.0 r.1) (after nav x k ks m)
  unfolding after weight_by
  after_bounded Again k two ks m h = accepts h
  after_bounded ClearTrail k two ks m h = accepts (cleared (k ∷ ks) (clear_trail m) (h.tables, refl) h.few h.tries)
  after_bounded Consumed k two ks m h = accepts (cleared ks (clear_trail m) (h.tables, refl) (omega (arith, h.few)) h.tries.1)
  after_bounded NeedMore k two ks m h =
      let tr = m.shared.trail in
      unless_so (ltb (length tr) most_trail) 7 seven
      (λ so. accepts (record {
        tables = h.tables;
        weighs = omega (arith, h.weighs, weight_append more tr (k ∷ []));
        few = omega (arith, h.few);
        trails = omega (arith, length-append tr (k ∷ []), ltb→lt (length tr) most_trail so);
        tries = h.tries.1;
        waits = each_append K tr (k ∷ []) h.waits (h.tries.0, tt);
      }))
  after_bounded Unmapped k two ks m h =
      let tr = m.shared.trail in
      let back = drop 1 (tr ++ (k ∷ [])) in
      if_so (decomposes k)
      (λ so. let no_more = two (leb→le composed k so) in accepts (record {
        tables = h.tables;
        weighs = omega (arith, h.weighs, no_more);
        few = omega (arith, h.few, no_more);
        trails = h.trails;
        tries = (first, (rest k h.tries.0, h.tries.1));
        waits = h.waits;
      }))
      (always_bind (unmapped_has nav six five (λ b tr. (b ≡ t) × (tr ≡ [])) (clear_trail m) (h.tables, refl))
      (λ m₁ e. accepts (cleared (back ++ ks) m₁ e
      (omega (arith, h.weighs, weight_append more back ks, weight_behind more tr k, weight_append more tr (k ∷ [])))
      (each_append K back ks (each_drop K (tr ++ (k ∷ [])) (each_append K tr (k ∷ []) h.waits (h.tries.0, tt))) h.tries.1))))
  after_bounded (RunStep s) k two ks m h =
      always_bind (step_has nav six five (λ b tr. (b ≡ t) × (tr ≡ [])) s (clear_trail m) (h.tables, refl))
      (λ m₁ e. accepts (cleared ks m₁ e (omega (arith, h.few)) h.tries.1))
  after_bounded (RetryAfter s) k two ks m h =
      always_bind (step_has nav six five (λ b tr. (b ≡ t) × (tr ≡ [])) s (clear_trail m) (h.tables, refl))
      (λ m₁ e. accepts (cleared (k ∷ ks) m₁ e h.few h.tries))

  pub round_bounded : (k : ℕ) → Halves more k → (ks : List ℕ) (m : State P) → Bounded more t w l K (k ∷ ks) m → Always N (λ r. Bounded more t w l K r.0 r.1) (round nav k ks m)
  unfolding round
  round_bounded k two ks m h =
      let turn = nav.turn m.shared.tables.classes m.place k in
      always_bind (hook_keeps twelve (λ b _ tr. (b ≡ m.shared.tables) × (tr ≡ m.shared.trail)) turn.event k m.shared (refl, refl))
      (λ c e. after_bounded turn.result k two ks (at turn.place c)
      (record { tables = rw e.0 h.tables; weighs = rw e.1 h.weighs; few = h.few; trails = rw e.1 h.trails; tries = h.tries; waits = rw e.1 h.waits }))

  -- ---- the loop

  pub loop_bounded : T (N 8) → ((k : ℕ) → Halves more k) → (left made : ℕ) (ks : List ℕ) (m : State P) → Bounded more t w l K ks m → Always N (λ m₁. Bounded more t w l K [] m₁) (loop nav left made ks m).result
  loop_bounded eight two = loop_keeps nav eight (Bounded more t w l K) (λ k ks m h. round_bounded k (two k) ks m h)
