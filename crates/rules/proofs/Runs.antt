-- Two kinds of machine whose bindings agree give the same answers and observable states to every list of plain calls: a
-- call changes the bindings by mapping alone, in a change of map from none on; both keep the same calls; and all else goes through
-- the key loop and the walk along the trail, of which Simulation speaks.
use Prim.Native.Nat.{ℕ, ◌+◌}
use mathlib.Core.Path.{◌≡◌, refl, ap}
use mathlib.Core.Bool.{Bool, true, false, not, ◌&&◌}
use mathlib.Core.Option.{Option}
use mathlib.Core.List.{List, [], ◌∷◌, map}
use lib.Dec.{T, eqb, leb, ltb}
use lib.ListN.{length, get_or}
use Rattle.rules.specs.Basics.{Result, every}
use Rattle.rules.specs.Values.{most_kept, most_queued, is_sequence, default_mode, Part, Step, map_valid, Binding, Maps, Prefixes, Context, Pair}
use Rattle.rules.specs.Tables.{Tables, tables_valid}
use Rattle.rules.specs.KeyLoop.{no_tracker, tracker, fetch, Shared, fresh_shared, with_sequences, State, KeyResult, input_key, reset_mode, repeat_sequence}
use Rattle.rules.specs.Calls.{Kind, Machine, Call, Open, Map, Prefix, Press, Pop, Repeats, Reset, Change, Answer, Accepted, Refused, Popped, Nothing, Pressed, PressRefused}
use Rattle.rules.specs.Calls.{fresh, open_with, keep, map_call, bind, bind_all, key_call, repeat_call, reset_call, carry_over, change_call, settled, pressed, popped, call, history, leaves}
use Rattle.rules.specs.ListReader.{plain_binding, plain}
use Rattle.rules.proofs.Tests.{T_and, and_T}
use Rattle.rules.proofs.Results.{Always, accepts, always_unless}
use Rattle.rules.proofs.Simulation.{is_other, Fits, Both, both_accept, both_refuse, both_bind, both_use, both_unless, Agree, Same, same, SameKey, same_key, goto_same, loop_same, resume_same}

-- the refusal n, of a key or of another call
abbrev pub says_refused : ℕ → Answer → Bool
says_refused n Accepted = false
says_refused n (Refused m) = eqb n m
says_refused n (Popped p) = false
says_refused n Nothing = false
says_refused n (Pressed rounds) = false
says_refused n (PressRefused m rounds) = eqb n m

-- is it a refusal at all?
abbrev pub is_refusal : Answer → Bool
is_refusal (Refused n) = true
is_refusal (PressRefused n rounds) = true
is_refusal x = false

abbrev pub neither3nor4 : Answer → Bool
neither3nor4 x = not (says_refused 3 x) && not (says_refused 4 x)

repeat_fits : (n : ℕ) (o : Option Context) (c : Shared) → Fits c → Always is_other Fits (repeat_sequence n o c)
unfolding repeat_sequence
repeat_fits n o c h =
    always_unless (is_sequence n) 1 tt (always_unless (leb (length (fetch o (get_or c.sequences n no_tracker)).pairs + length c.queue) most_queued) 5 tt (accepts h))

module _ (𝓖 𝓛 : Kind) (RB : 𝓖.Bindings → 𝓛.Bindings → Type 0) (R : 𝓖.Bindings → 𝓛.Bindings → 𝓖.Place → 𝓛.Place → Type 0) where
  -- ---- what is asked of the two kinds

  -- after a mapping the bindings agree again, and places that agreed before still do
  pub record Grown (b : 𝓖.Bindings) (l : 𝓛.Bindings) (b₁ : 𝓖.Bindings) (l₁ : 𝓛.Bindings) : Type 0 where
    pub bindings : RB b₁ l₁
    pub places : (p : 𝓖.Place) (q : 𝓛.Place) → R b l p q → R b₁ l₁ p q

  pub record Related : Type 0 where
    pub fresh : RB 𝓖.none_yet 𝓛.none_yet
    pub follow : (b : 𝓖.Bindings) (l : 𝓛.Bindings) → RB b l → Agree (R b l) (𝓖.navigator b) (𝓛.navigator l)
    pub maps : (mode : ℕ) (ps : List Part) (s : Step) → T (plain_binding (Maps mode ps s)) → T (map_valid mode ps s)
        → (b : 𝓖.Bindings) (l : 𝓛.Bindings) → RB b l → Both (Grown b l) (𝓖.map_in mode ps s b) (𝓛.map_in mode ps s l)

  -- ---- two machines that differ in bindings and place alone: both kept the same calls

  pub data Alike : Machine 𝓖 → Machine 𝓛 → Type 0 where
    alike : {b : 𝓖.Bindings} {l : 𝓛.Bindings} {ks : List Binding} {m : State 𝓖.Place} {n : State 𝓛.Place} → RB b l → Same (R b l) m n
        → Alike (record { bindings = b; kept = ks; state = m }) (record { bindings = l; kept = ks; state = n })

  pub data SameAnswer : Machine 𝓖 × Answer → Machine 𝓛 × Answer → Type 0 where
    same_answer : {s : Machine 𝓖} {u : Machine 𝓛} (x : Answer) → T (neither3nor4 x) → Alike s u → SameAnswer (s, x) (u, x)

  settled_same : {s : Machine 𝓖} {u : Machine 𝓛} {x : Result (Machine 𝓖)} {y : Result (Machine 𝓛)} → Alike s u → Both Alike x y → SameAnswer (settled 𝓖 s x) (settled 𝓛 u y)
  unfolding settled
  settled_same w (both_accept w₁) = same_answer Accepted tt w₁
  settled_same w (both_refuse n o) = same_answer (Refused n) o w

  pressed_same : (s : Machine 𝓖) (u : Machine 𝓛) → Alike s u → {x : KeyResult 𝓖.Place} {y : KeyResult 𝓛.Place} → SameKey (R s.bindings u.bindings) x y
      → SameAnswer (pressed 𝓖 s x.rounds x.result) (pressed 𝓛 u y.rounds y.result)
  unfolding pressed
  pressed_same s u (alike rb w) (same_key made (both_accept w₁)) = same_answer (Pressed made) tt (alike rb w₁)
  pressed_same s u w (same_key made (both_refuse n o)) = same_answer (PressRefused n made) o w

  popped_same : (s : Machine 𝓖) (u : Machine 𝓛) → Alike s u → (ps : List Pair) → SameAnswer (popped 𝓖 s ps) (popped 𝓛 u ps)
  unfolding popped
  popped_same s u w [] = same_answer Nothing tt w
  popped_same s u (alike rb (same r f)) (p ∷ ps) = same_answer (Popped p) tt (alike rb (same r f))

  module _ (𝓡 : Related) where
    fresh_alike : (t : Tables) → T (tables_valid t) → Alike (fresh 𝓖 t) (fresh 𝓛 t)
    unfolding fresh fresh_shared
    fresh_alike t v = alike 𝓡.fresh (same ((𝓡.follow 𝓖.none_yet 𝓛.none_yet 𝓡.fresh).roots default_mode tt) (v, tt))

    open_same : (t : Tables) → Both Alike (open_with 𝓖 t) (open_with 𝓛 t)
    unfolding open_with
    open_same t = both_unless (tables_valid t) 1 tt (λ v. both_accept (fresh_alike t v))

    bind_same : (x : Binding) → T (plain_binding x) → (s : Machine 𝓖) (u : Machine 𝓛) → Alike s u → Both Alike (bind 𝓖 x s) (bind 𝓛 x u)
    unfolding plain_binding bind map_call keep
    bind_same (Maps mode ps st) h s u (alike {b = b} {l = l} {ks = ks} rb (same {p = p} {q = q} r f)) =
        both_bind (both_unless (map_valid mode ps st) 1 tt (λ v. 𝓡.maps mode ps st h v b l rb))
        (λ b₁ l₁ g. both_unless (ltb (length ks) most_kept) 11 tt (λ _. both_accept (alike g.bindings (same (g.places p q r) f))))
    bind_same (Prefixes mode ps st) h s u w = absurd h

    bind_all_same : (xs : List Binding) → T (every plain_binding xs) → (s : Machine 𝓖) (u : Machine 𝓛) → Alike s u → Both Alike (bind_all 𝓖 xs s) (bind_all 𝓛 xs u)
    unfolding bind_all every
    bind_all_same [] h s u w = both_accept w
    bind_all_same (x ∷ xs) h s u w =
        let k = T_and (plain_binding x) (every plain_binding xs) h in both_bind (bind_same x k.0 s u w) (λ s₁ u₁ w₁. bind_all_same xs k.1 s₁ u₁ w₁)

    -- the state of two machines that are alike, carried over to two that are
    carry_same : (s : Machine 𝓖) (u : Machine 𝓛) → Alike s u → (s₁ : Machine 𝓖) (u₁ : Machine 𝓛) → Alike s₁ u₁ → Alike (carry_over 𝓖 s s₁) (carry_over 𝓛 u u₁)
    unfolding carry_over
    carry_same s u (alike rb (same r f)) s₁ u₁ (alike {b = b} {l = l} rb₁ (same r₁ f₁)) =
        alike rb₁ (resume_same (R b l) (𝓖.navigator b) (𝓛.navigator l) (𝓡.follow b l rb₁) _ (f₁.0, f.1))

    call_same : (s : Machine 𝓖) (u : Machine 𝓛) → Alike s u → (c : Call) → T (plain c) → SameAnswer (call 𝓖 s c) (call 𝓛 u c)
    unfolding plain call bind key_call repeat_call reset_call change_call popped input_key reset_mode
    call_same s u w (Open t) h = settled_same w (open_same t)
    call_same s u w (Map mode ps st) h = settled_same w (bind_same (Maps mode ps st) h s u w)
    call_same s u w (Change t xs) h =
        settled_same w
        (both_bind (open_same t) (λ s₁ u₁ w₁.
        both_bind (bind_all_same xs h s₁ u₁ w₁) (λ s₂ u₂ w₂. both_accept (carry_same s u w s₂ u₂ w₂))))
    call_same s u w (Prefix mode ps st) h = absurd h
    call_same s u (alike {b = b} {l = l} {m = m} {n = n} rb w) (Press i) h =
        pressed_same s u (alike rb w) (loop_same (R b l) (𝓖.navigator b) (𝓛.navigator l) (𝓡.follow b l rb) i.budget 0 (i.key ∷ []) m n w)
    call_same s u (alike rb (same {c = c} r f)) Pop h = popped_same s u (alike rb (same r f)) c.queue
    call_same s u (alike rb (same {c = c} r f)) (Repeats n o) h =
        settled_same (alike rb (same r f)) (both_use (repeat_fits n o c f) (λ c₁ f₁. both_accept (alike rb (same r f₁))))
    call_same s u (alike {b = b} {l = l} rb (same {c = c} r f)) Reset h =
        settled_same (alike rb (same r f))
        (both_bind (goto_same (R b l) (𝓖.navigator b) (𝓛.navigator l) (𝓡.follow b l rb) default_mode tt (with_sequences (map (λ x. tracker x.pairs true) c.sequences) c) f)
        (λ m n w. both_accept (alike rb w)))

    -- ---- lists of calls

    history_same : (s : Machine 𝓖) (u : Machine 𝓛) → Alike s u → (cs : List Call) → T (every plain cs)
        → (history 𝓖 s cs ≡ history 𝓛 u cs) × T (every (λ x. neither3nor4 x.0) (history 𝓖 s cs))
    unfolding history every
    history_same s u w [] h = (refl, tt)
    history_same s u w (c ∷ cs) h =
        go (call_same s u w c (T_and (plain c) (every plain cs) h).0) (λ s₁ u₁ w₁. history_same s₁ u₁ w₁ cs (T_and (plain c) (every plain cs) h).1)
      where
        go : {x : Machine 𝓖 × Answer} {y : Machine 𝓛 × Answer} → SameAnswer x y
            → ((s₁ : Machine 𝓖) (u₁ : Machine 𝓛) → Alike s₁ u₁ → (history 𝓖 s₁ cs ≡ history 𝓛 u₁ cs) × T (every (λ z. neither3nor4 z.0) (history 𝓖 s₁ cs)))
            → ((x.1, x.0.state.shared) ∷ history 𝓖 x.0 cs ≡ (y.1, y.0.state.shared) ∷ history 𝓛 y.0 cs)
            × T (neither3nor4 x.1 && every (λ z. neither3nor4 z.0) (history 𝓖 x.0 cs))
        go (same_answer {s = s₁} {u = u₁} a o (alike rb (same r f))) ih =
            let k = ih s₁ u₁ (alike rb (same r f)) in (ap (λ zs. (a, s₁.state.shared) ∷ zs) k.0, and_T (neither3nor4 a) _ o k.1)

    after_alike : {x : Machine 𝓖 × Answer} {y : Machine 𝓛 × Answer} → SameAnswer x y → Alike x.0 y.0
    after_alike (same_answer a o w) = w

    leaves_alike : (s : Machine 𝓖) (u : Machine 𝓛) → Alike s u → (cs : List Call) → T (every plain cs) → Alike (leaves 𝓖 s cs) (leaves 𝓛 u cs)
    unfolding leaves every
    leaves_alike s u w [] h = w
    leaves_alike s u w (c ∷ cs) h =
        let k = T_and (plain c) (every plain cs) h in leaves_alike (call 𝓖 s c).0 (call 𝓛 u c).0 (after_alike (call_same s u w c k.0)) cs k.1

    kept_same : {s : Machine 𝓖} {u : Machine 𝓛} → Alike s u → s.kept ≡ u.kept
    kept_same (alike rb w) = refl

    pub kept_from_fresh : (t : Tables) → T (tables_valid t) → (cs : List Call) → T (every plain cs) → (leaves 𝓖 (fresh 𝓖 t) cs).kept ≡ (leaves 𝓛 (fresh 𝓛 t) cs).kept
    kept_from_fresh t v cs h = kept_same (leaves_alike (fresh 𝓖 t) (fresh 𝓛 t) (fresh_alike t v) cs h)

    pub same_from_fresh : (t : Tables) → T (tables_valid t) → (cs : List Call) → T (every plain cs)
        → (history 𝓖 (fresh 𝓖 t) cs ≡ history 𝓛 (fresh 𝓛 t) cs) × T (every (λ x. neither3nor4 x.0) (history 𝓖 (fresh 𝓖 t) cs))
    same_from_fresh t v cs h = history_same (fresh 𝓖 t) (fresh 𝓛 t) (fresh_alike t v) cs h
