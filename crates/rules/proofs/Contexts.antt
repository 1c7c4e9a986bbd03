-- What holds of the fresh context and is kept by the hook, by marks and by merge holds of every context of a machine, whatever
-- calls were made: of its own, of each waiting pair's and each remembered pair's (`leaves_holds`), and of a popped pair's
-- (`popped_holds`). Why it is so: only these make a context; a pair is pushed with the machine's; and a pair waits and is remembered
-- with the context that it was pushed with, until a repeat merges another into it.
use Prim.Native.Nat.{ℕ, ◌+◌}
use native.Mathlib.Omega.{arith}
use mathlib.Core.Path.{◌≡◌}
use mathlib.Core.Bool.{true}
use mathlib.Core.Option.{Option, none, some}
use mathlib.Core.List.{List, [], ◌∷◌}
use lib.Dec.{leb, ltb}
use lib.ListN.{length, get_or}
use Rattle.rules.specs.Values.{most_queued, default_mode, is_sequence, Event, Maps, Prefixes, Context, no_context, hook, merge, Pair}
use Rattle.rules.specs.Tables.{Tables}
use Rattle.rules.specs.KeyLoop.{Tracker, no_tracker, tracker, override, fetch, Shared, fresh_shared, push, give_all, Input, run_hook, set_mark, input_key, reset_mode, repeat_sequence}
use Rattle.rules.specs.Calls.{Kind, Machine, navigate, Call, Open, Map, Prefix, Press, Pop, Repeats, Reset, Change, Popped}
use Rattle.rules.specs.Calls.{fresh, bind, bind_all, key_call, repeat_call, reset_call, carry_over, popped, call, leaves}
use Rattle.rules.proofs.Weights.{Each, each_append, each_at, each_set, each_image}
use Rattle.rules.proofs.Results.{Always, accepts, always_bind, always_more, always_unless, Remembers, rules_always, push_all_keeps, each_runs}
use Rattle.rules.proofs.Rounds.{goto_keeps, any_round_keeps, loop_keeps}
use Rattle.rules.proofs.Refusals.{open_always, change_always}
use Rattle.rules.proofs.Reached.{any_number, always_is, bind_few, settled_keeps, pressed_keeps, resume_keeps, leaves_keep_all}

-- ---- of all contexts that a machine has

module _ (X : Context → Type 0) where
  abbrev pub Carries : Pair → Type 0
  Carries p = X p.context

  abbrev pub Recalls : Tracker → Type 0
  Recalls = Remembers Carries

  -- of the context, of each waiting pair and of each remembered one
  abbrev pub Throughout : Shared → Type 0
  Throughout c = X c.context × (Each Carries c.queue × Each Recalls c.sequences)

  push_holds : (p : Pair) (c : Shared) → Carries p → Throughout c → Always any_number Throughout (push p c)
  unfolding push
  push_holds p c g h =
      always_bind (rules_always tt Carries p g c.tables.rules c.mode c.sequences h.1.1)
      (λ qs i. always_unless (ltb (length c.queue) most_queued) 5 tt (accepts (h.0, (each_append Carries c.queue (p ∷ []) h.1.0 (g, tt), i))))

  -- where it is kept by the hook of a key
  hook_holds : (k : ℕ) → ((e : Event) (x : Context) → X x → Always any_number X (hook e k x)) → (o : Option Event) (c : Shared) → Throughout c → Always any_number Throughout (run_hook o k c)
  unfolding run_hook
  hook_holds k u none c h = accepts h
  hook_holds k u (some e) c h = always_bind (u e c.context h.0) (λ x i. accepts (i, h.1))

  give_holds : X no_context → (acts : List ℕ) (c : Shared) → Throughout c → Always any_number Throughout (give_all acts c)
  unfolding give_all
  give_holds at_first acts c h = push_all_keeps Throughout c.context (λ a c₁. push_holds (record { action = a; context = c.context }) c₁ h.0) acts _ (at_first, h.1)

-- ---- of all of every machine that calls lead to

module _ (X : Context → Type 0) (at_first : X no_context) (hooks : (e : Event) (k : ℕ) (x : Context) → X x → Always any_number X (hook e k x))
    (marks : (mark : ℕ) (x : Context) → X x → X (record { count = x.count; typed = x.typed; mark = mark })) (merges : (x over : Context) → X x → X (merge x over)) (𝓚 : Kind) where
  abbrev Held : Shared → Type 0
  Held = Throughout X

  abbrev Holds : Machine 𝓚 → Type 0
  Holds s = Held s.state.shared

  mark_holds : (o : Option ℕ) (c : Shared) → Held c → Held (set_mark o c)
  unfolding set_mark
  mark_holds none c h = h
  mark_holds (some mark) c h = (marks mark c.context h.0, h.1)

  key_holds : (i : Input) (s : Machine 𝓚) → Holds s → Always any_number (λ m. Held m.shared) (key_call 𝓚 i s).result
  unfolding key_call input_key
  key_holds i s h =
      let nav = navigate 𝓚 s in
      loop_keeps nav tt (λ ks m. Held m.shared)
      (λ k ks m j. any_round_keeps nav Held (give_holds X at_first) (λ mode c i. i) tt (λ tr c i. i) k ks m (hook_holds X k (λ e. hooks e k)) (each_runs (λ st. mark_holds st.mark) _) j)
      i.budget 0 (i.key ∷ []) s.state h

  override_holds : (o : Option Context) (p : Pair) → Carries X p → Carries X (override o p)
  unfolding override
  override_holds none p h = h
  override_holds (some over) p h = merges p.context over h

  repeat_holds : (q : ℕ) (o : Option Context) (s : Machine 𝓚) → Holds s → Always any_number Holds (repeat_call 𝓚 q o s)
  unfolding repeat_call repeat_sequence fetch no_tracker
  repeat_holds q o s h =
      let c = s.state.shared in
      let t = fetch o (get_or c.sequences q no_tracker) in
      let i : Recalls X t = each_image (Carries X) (Carries X) (override o) (override_holds o) _ (each_at (Recalls X) c.sequences q tt h.1.1) in
      always_bind {X = Held}
      (always_unless (is_sequence q) 1 tt
      (always_unless (leb (length t.pairs + length c.queue) most_queued) 5 tt
      (accepts (h.0, (each_append (Carries X) t.pairs c.queue i h.1.0, each_set (Recalls X) c.sequences q i h.1.1)))))
      (λ c₁ j. accepts j)

  reset_holds : (s : Machine 𝓚) → Holds s → Always any_number Holds (reset_call 𝓚 s)
  unfolding reset_call reset_mode
  reset_holds s h =
      let ts = s.state.shared.sequences in
      always_bind (goto_keeps (navigate 𝓚 s) Held (give_holds X at_first) (λ mode c i. i) default_mode _
      (h.0, (h.1.0, each_image (Recalls X) (Recalls X) (λ t. tracker t.pairs true) (λ t i. i) ts h.1.1)))
      (λ m i. accepts i)

  -- what a pop leaves, and the pair
  pop_holds : (s : Machine 𝓚) (ps : List Pair) → Each (Carries X) ps → Holds s → let r = popped 𝓚 s ps in Holds r.0 × ((p : Pair) → r.1 ≡ Popped p → Carries X p)
  unfolding popped
  pop_holds s [] i h = (h, λ p e. absurd (let z : ◌≡◌ {A = ℕ} 0 1 = cc in omega arith))
  pop_holds s (q ∷ ps) i h = ((h.0, (i.1, h.1.1)), λ p e. let z : q ≡ p = cc in rw (← z) i.0)

  fresh_holds : (t : Tables) → Holds (fresh 𝓚 t)
  unfolding fresh fresh_shared no_tracker
  fresh_holds t = (at_first, (tt, (tt, (tt, (tt, (tt, (tt, (tt, (tt, (tt, tt))))))))))

  call_holds : (s : Machine 𝓚) (c : Call) → Holds s → Holds (call 𝓚 s c).0
  unfolding call bind carry_over
  call_holds s (Open t) h = settled_keeps 𝓚 Holds s h (always_more (λ s₁ e. rw e.0 (fresh_holds t)) (open_always 𝓚 tt t))
  call_holds s (Map mode path st) h = settled_keeps 𝓚 Holds s h (always_more (λ s₁ e. rw e.0 h) (bind_few 𝓚 (Maps mode path st) s))
  call_holds s (Prefix mode path os) h = settled_keeps 𝓚 Holds s h (always_more (λ s₁ e. rw e.0 h) (bind_few 𝓚 (Prefixes mode path os) s))
  call_holds s (Press i) h = pressed_keeps 𝓚 Holds s _ h (λ m j. j) (key_holds i s h)
  call_holds s Pop h = (pop_holds s s.state.shared.queue h.1.0 h).0
  call_holds s (Repeats q o) h = settled_keeps 𝓚 Holds s h (repeat_holds q o s h)
  call_holds s Reset h = settled_keeps 𝓚 Holds s h (reset_holds s h)
  call_holds s (Change t xs) h =
      settled_keeps 𝓚 Holds s h
      (change_always 𝓚 tt Holds t xs s (λ v. always_more (λ next e. resume_keeps (navigate 𝓚 next) Held _ h h) (always_is (bind_all 𝓚 xs (fresh 𝓚 t)))))

  module _ (t : Tables) (cs : List Call) where
    pub leaves_holds : Holds (leaves 𝓚 (fresh 𝓚 t) cs)
    leaves_holds = leaves_keep_all 𝓚 Holds call_holds (fresh 𝓚 t) cs (fresh_holds t)

    -- and of a pair that is popped then
    pub popped_holds : (p : Pair) → (call 𝓚 (leaves 𝓚 (fresh 𝓚 t) cs) Pop).1 ≡ Popped p → Carries X p
    unfolding call
    popped_holds = (pop_holds _ _ leaves_holds.1.0 leaves_holds).1
