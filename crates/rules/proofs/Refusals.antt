-- The refusals of each operation, by the order of its work: what a call of the machine, the reading of a map file and a run may
-- come to. What a map or prefix call keeps of the graph, and other calls of tables, bindings and kept calls, goes along.
use Prim.Native.Nat.{ℕ, zero, suc, ◌+◌, ◌≤◌, min}
use native.Mathlib.Omega.{arith}
use mathlib.Core.Path.{◌≡◌, refl}
use mathlib.Core.Bool.{Bool, true, ◌&&◌}
use mathlib.Core.Option.{Option}
use mathlib.Core.List.{List, [], ◌∷◌, ◌++◌, map}
use lib.Dec.{T, leb, ltb, ltb→lt}
use lib.ListN.{length, get_or, length-append}
use Rattle.rules.specs.Basics.{Result, accept}
use Rattle.rules.specs.Values.{largest, mode_count, most_classes, most_actions, most_rules, most_parts, most_kept, most_queued, most_trail, default_mode, is_mode, is_class, is_sequence, is_status, is_repeat}
use Rattle.rules.specs.Values.{Part, map_valid, prefix_valid, Binding, Maps, Prefixes, Context, Pair}
use Rattle.rules.specs.Tables.{Tables, tables_valid}
use Rattle.rules.specs.Graph.{Graph}
use Rattle.rules.specs.KeyLoop.{no_tracker, tracker, fetch, with_sequences, Input, input_key, reset_mode, repeat_sequence}
use Rattle.rules.specs.Calls.{Kind, Machine, graph_kind, fresh, navigate, open_with, keep, map_call, prefix_call, bind, bind_all, key_call, repeat_call, reset_call, carry_over, change_call}
use Rattle.rules.specs.Numbers.{groups, value_of, shortest, number_up_to, number}
use Rattle.rules.specs.MapFile.{Reader, then_read, lifted, such, times, list_of, read_actions, read_optional_mode, read_class, read_mode, read_rule, read_tables, repeat_by, event_by, read_part, read_step, binding_by, read_binding, read_bindings, at_end, read_map}
use Rattle.rules.specs.Run.{most_output, numbers_in, read_keys, pair_bytes, emptied, play_keys, run}
use Rattle.rules.proofs.Results.{Always, accepts, refuses, Whatever, always_bind, always_more, unless_so, always_unless, always_if}
use Rattle.rules.proofs.Grown.{Grows, any_grows, map_grows, prefix_grows}
use Rattle.rules.proofs.Weights.{each_any}
use Rattle.rules.proofs.Rounds.{splits, weight, halves, goto_has, loop_bounded}

-- ---- calls of a machine

-- the map is as it was: tables, bindings and kept calls
pub record SameMap {𝓚 : Kind} (s s₁ : Machine 𝓚) : Type 0 where
  pub tables : s₁.state.shared.tables ≡ s.state.shared.tables
  pub bindings : s₁.bindings ≡ s.bindings
  pub kept : s₁.kept ≡ s.kept

-- and the trail is
abbrev pub Stays : {𝓚 : Kind} → Machine 𝓚 → Machine 𝓚 → Type 0
Stays s s₁ = SameMap s s₁ × (s₁.state.shared.trail ≡ s.state.shared.trail)

module _ (𝓚 : Kind) {N : ℕ → Bool} where
  pub open_always : T (N 1) → (t : Tables) → Always N (λ s. (s ≡ fresh 𝓚 t) × T (tables_valid t)) (open_with 𝓚 t)
  unfolding open_with
  open_always one t = unless_so (tables_valid t) 1 one (λ v. accepts (refl, v))

  -- what a binding call came to is kept, unless with 11, and the state stays
  pub keep_always : T (N 11) → (x : Binding) (s : Machine 𝓚) (b : 𝓚.Bindings) → Always N (λ s₁. (s₁.bindings ≡ b) × ((s₁.state ≡ s.state) × (length s₁.kept ≤ most_kept))) (keep 𝓚 x s b)
  unfolding keep
  keep_always eleven x s b =
      unless_so (ltb (length s.kept) most_kept) 11 eleven
      (λ so. accepts (refl, (refl, omega (arith, length-append s.kept (x ∷ []), ltb→lt (length s.kept) most_kept so))))

  pub key_always : T (N 8) → T (N 12) → T (N 6) → T (N 5) → T (N 7) → (i : Input) (s : Machine 𝓚)
      → Always N (λ m. m.shared.tables ≡ s.state.shared.tables) (key_call 𝓚 i s).result
  unfolding key_call input_key
  key_always eight twelve six five seven i s =
      let tr = s.state.shared.trail in
      always_more (λ m h. h.tables)
      (loop_bounded (navigate 𝓚 s) twelve six five seven splits s.state.shared.tables (1 + weight (i.key ∷ []) + weight tr) (most_trail + length tr) (omega arith) (λ k. Unit {0}) tt (λ k h. tt) eight halves i.budget 0 (i.key ∷ []) s.state
      (record { tables = refl; weighs = omega arith; few = omega arith; trails = omega arith; tries = (tt, tt); waits = each_any (λ k. tt) tr }))

  pub repeat_always : T (N 1) → T (N 5) → (q : ℕ) (over : Option Context) (s : Machine 𝓚) → Always N (Stays s) (repeat_call 𝓚 q over s)
  unfolding repeat_call repeat_sequence
  repeat_always one five q over s =
      let c = s.state.shared in
      always_bind {X = λ c₁. (c₁.tables ≡ c.tables) × (c₁.trail ≡ c.trail)}
      (always_unless (is_sequence q) 1 one
      (always_unless (leb (length (fetch over (get_or c.sequences q no_tracker)).pairs + length c.queue) most_queued) 5 five (accepts (refl, refl))))
      (λ c₁ h. accepts (record { tables = h.0; bindings = refl; kept = refl }, h.1))

  pub reset_always : T (N 6) → T (N 5) → (s : Machine 𝓚) → Always N (Stays s) (reset_call 𝓚 s)
  unfolding reset_call reset_mode
  reset_always six five s =
      let c = s.state.shared in
      always_bind (goto_has (navigate 𝓚 s) six five (λ t tr. (t ≡ c.tables) × (tr ≡ c.trail)) default_mode (with_sequences (map (λ x. tracker x.pairs true) c.sequences) c) (refl, refl))
      (λ m h. accepts (record { tables = h.0; bindings = refl; kept = refl }, h.1))

module _ {N : ℕ → Bool} (one : T (N 1)) (two : T (N 2)) (three : T (N 3)) (four : T (N 4)) (eleven : T (N 11))
    (G : Graph → Type 0) (grows : Grows G) where
  pub bind_always : (x : Binding) (s : Machine graph_kind) → G s.bindings → Always N (λ s₁. G s₁.bindings) (bind graph_kind x s)
  unfolding bind map_call prefix_call
  bind_always (Maps mode path st) s h =
      always_bind (always_unless (map_valid mode path st) 1 one (map_grows G two three four grows mode path st s.bindings h))
      (λ g k. always_more (λ s₁ e. rw e.0 k) (keep_always graph_kind eleven (Maps mode path st) s g))
  bind_always (Prefixes mode path os) s h =
      always_bind (always_unless (prefix_valid mode path os) 1 one (prefix_grows G two three four grows mode path os s.bindings h))
      (λ g k. always_more (λ s₁ e. rw e.0 k) (keep_always graph_kind eleven (Prefixes mode path os) s g))

-- ---- several bindings, and a change of map

module _ (𝓚 : Kind) {N : ℕ → Bool} where
  -- what each binding keeps, all keep
  pub bind_all_always : (X : Machine 𝓚 → Type 0) → ((x : Binding) (s : Machine 𝓚) → X s → Always N X (bind 𝓚 x s)) → (xs : List Binding) (s : Machine 𝓚) → X s → Always N X (bind_all 𝓚 xs s)
  unfolding bind_all
  bind_all_always X keeps [] s h = accepts h
  bind_all_always X keeps (x ∷ xs) s h = always_bind (keeps x s h) (λ s₁ h₁. bind_all_always X keeps xs s₁ h₁)

  -- a change carries the state over to what its bindings make of the fresh machine
  pub change_always : T (N 1) → (X : Machine 𝓚 → Type 0) (t : Tables) (xs : List Binding) (s : Machine 𝓚)
      → (T (tables_valid t) → Always N (λ next. X (carry_over 𝓚 s next)) (bind_all 𝓚 xs (fresh 𝓚 t))) → Always N X (change_call 𝓚 t xs s)
  unfolding change_call
  change_always one X t xs s h = always_bind (open_always 𝓚 one t) (λ s₁ e. rw e.0 (always_bind (h e.1) (λ next k. accepts k)))

-- ---- readers

abbrev Reads : {A : Type 0} → (ℕ → Bool) → Reader A → Type 0
Reads N r = (bs : List ℕ) → Always N Whatever (r bs)

then_reads : {A B : Type 0} {N : ℕ → Bool} {x : Result (A × List ℕ)} {f : A → Reader B}
    → Always N Whatever x → ((a : A) → Reads N (f a)) → Always N Whatever (then_read x f)
then_reads (accepts {a = a} h) k = k a.0 a.1
then_reads (refuses n o) k = refuses n o

groups_always : {N : ℕ → Bool} → T (N 9) → (bs : List ℕ) → Always N Whatever (groups bs)
unfolding groups
groups_always nine [] = refuses 9 nine
groups_always nine (b ∷ bs) = always_if (ltb b 0x80) (accepts tt) (always_bind (groups_always nine bs) (λ r _. accepts tt))

number_always : {N : ℕ → Bool} → T (N 9) → Reads N number
unfolding number number_up_to
number_always nine bs =
    always_bind (groups_always nine bs) (λ r _. always_unless (shortest r.0 && leb (value_of r.0) largest) 9 nine (accepts tt))

module _ {N : ℕ → Bool} (nine : T (N 9)) (one : T (N 1)) where
  such_always : (p : ℕ → Bool) → Reads N (such p)
  such_always p bs = then_reads (number_always nine bs) (λ n cs. always_unless (p n) 1 one (accepts tt))

  times_always : {A : Type 0} (n : ℕ) (r : Reader A) → Reads N r → Reads N (times n r)
  unfolding times
  times_always zero r h bs = accepts tt
  times_always (suc n) r h bs = then_reads (h bs) (λ a cs. then_reads (times_always n r h cs) (λ rest ds. accepts tt))

  list_always : {A : Type 0} (most : ℕ) (r : Reader A) → Reads N r → Reads N (list_of most r)
  list_always most r h bs = then_reads (such_always (λ n. leb n most) bs) (λ n cs. times_always n r h cs)

  actions_always : Reads N read_actions
  actions_always = list_always most_actions number (number_always nine)

  mode_always : Reads N read_optional_mode
  mode_always bs = then_reads (such_always (λ n. leb n mode_count) bs) (λ n cs. accepts tt)

  class_always : Reads N read_class
  class_always bs =
      then_reads (such_always is_class bs) (λ c bs₁. then_reads (number_always nine bs₁) (λ low bs₂. then_reads (such_always (leb low) bs₂) (λ high bs₃. accepts tt)))

  entry_always : Reads N read_mode
  entry_always bs =
      then_reads (actions_always bs) (λ enter bs₁. then_reads (actions_always bs₁) (λ unmapped bs₂. then_reads (mode_always bs₂) (λ next bs₃. accepts tt)))

  rule_always : Reads N read_rule
  rule_always bs =
      then_reads (such_always is_mode bs)
      (λ mode bs₁. then_reads (number_always nine bs₁)
      (λ low bs₂. then_reads (such_always (leb low) bs₂)
      (λ high bs₃. then_reads (such_always is_sequence bs₃) (λ q bs₄. then_reads (such_always is_status bs₄) (λ status bs₅. accepts tt)))))

  tables_always : Reads N read_tables
  tables_always bs =
      then_reads (list_always most_classes read_class class_always bs)
      (λ classes bs₁. then_reads (list_always mode_count read_mode entry_always bs₁)
      (λ modes bs₂. then_reads (list_always most_rules read_rule rule_always bs₂) (λ rules bs₃. accepts tt)))

  repeat_read : (n : ℕ) → Reads N (repeat_by n)
  unfolding repeat_by
  repeat_read zero bs = accepts tt
  repeat_read (suc zero) bs = then_reads (such_always is_repeat bs) (λ n cs. accepts tt)
  repeat_read (suc (suc k)) bs = then_reads (such_always is_repeat bs) (λ n cs. accepts tt)

  event_read : (n : ℕ) → Reads N (event_by n)
  unfolding event_by
  event_read zero bs = then_reads (number_always nine bs) (λ n cs. accepts tt)
  event_read (suc zero) bs = then_reads (such_always is_class bs) (λ n cs. accepts tt)
  event_read (suc (suc zero)) bs = accepts tt
  event_read (suc (suc (suc k))) bs = accepts tt

  part_always : Reads N read_part
  part_always bs =
      then_reads (such_always (λ n. leb n 2) bs)
      (λ r bs₁. then_reads (repeat_read r bs₁) (λ x bs₂. then_reads (such_always (λ n. leb n 3) bs₂) (λ e bs₃. then_reads (event_read e bs₃) (λ ev bs₄. accepts tt))))

  step_always : Reads N read_step
  step_always bs =
      then_reads (such_always (λ n. leb n 1) bs)
      (λ flag bs₁. then_reads (actions_always bs₁)
      (λ acts bs₂. then_reads (mode_always bs₂) (λ next bs₃. then_reads (mode_always bs₃) (λ fall bs₄. then_reads (number_always nine bs₄) (λ mark bs₅. accepts tt)))))

  -- ---- bindings and the file

  binding_by_always : (kind mode : ℕ) (path : List Part) → Reads N (binding_by kind mode path)
  unfolding binding_by
  binding_by_always zero mode path bs = then_reads (step_always bs) (λ st cs. accepts tt)
  binding_by_always (suc zero) mode path bs = accepts tt
  binding_by_always (suc (suc k)) mode path bs = then_reads (step_always bs) (λ st cs. accepts tt)

  binding_always : Reads N read_binding
  binding_always bs =
      then_reads (such_always (λ n. leb n 2) bs)
      (λ kind bs₁. then_reads (such_always is_mode bs₁) (λ mode bs₂. then_reads (list_always most_parts read_part part_always bs₂) (λ path bs₃. binding_by_always kind mode path bs₃)))

  module _ (two : T (N 2)) (three : T (N 3)) (four : T (N 4)) (eleven : T (N 11)) where
    call_read : {A : Type 0} {X : A → Type 0} {r : Result A} → Always N X r → Reads N (lifted r)
    call_read (accepts h) bs = accepts tt
    call_read (refuses n o) bs = refuses n o

    bindings_always : (n : ℕ) (s : Machine graph_kind) → Reads N (read_bindings n s)
    unfolding read_bindings
    bindings_always zero s bs = accepts tt
    bindings_always (suc n) s bs = then_reads (binding_always bs) (λ x cs. then_reads (call_read (bind_always one two three four eleven (λ g. Unit {0}) any_grows x s tt) cs) (λ s₁ ds. bindings_always n s₁ ds))

    end_always : {A : Type 0} {x : Result (A × List ℕ)} → Always N Whatever x → Always N Whatever (at_end x)
    unfolding at_end
    end_always {A} (accepts {a = a} h) = go a.0 a.1
      where
        go : (y : A) (bs : List ℕ) → Always N Whatever (at_end (accept (y, bs)))
        go y [] = accepts tt
        go y (b ∷ bs) = refuses 9 nine
    end_always (refuses n o) = refuses n o

    pub file_always : (bs : List ℕ) → Always N Whatever (read_map bs)
    unfolding read_map
    file_always bs = end_always (then_reads (tables_always bs) (λ t bs₁. then_reads (number_always nine bs₁) (λ n bs₂. bindings_always n (fresh graph_kind t) bs₂)))

-- ---- the run

module _ {N : ℕ → Bool} (eight : T (N 8)) (twelve : T (N 12)) (six : T (N 6)) (five : T (N 5)) (seven : T (N 7)) (ten : T (N 10)) where
  play_always : (budget room : ℕ) (ks : List ℕ) (s : Machine graph_kind) (out : List Pair) → Always N Whatever (play_keys budget room ks s out)
  unfolding play_keys
  play_always budget room [] s out = accepts tt
  play_always budget room (k ∷ ks) s out =
      always_bind (key_always graph_kind eight twelve six five seven (record { key = k; budget = budget }) s)
      (λ m _. always_unless (leb (length (pair_bytes (out ++ m.shared.queue))) room) 10 ten (play_always budget room ks (emptied s m) (out ++ m.shared.queue)))

  keys_always : T (N 9) → (most : ℕ) (bs : List ℕ) → Always N Whatever (numbers_in most bs)
  unfolding numbers_in
  keys_always nine zero [] = accepts tt
  keys_always nine zero (b ∷ bs) = refuses 9 nine
  keys_always nine (suc most) [] = accepts tt
  keys_always nine (suc most) (b ∷ bs) = always_bind (number_always nine (b ∷ bs)) (λ r _. always_bind (keys_always nine most r.1) (λ ks _. accepts tt))

  pub run_always : T (N 9) → T (N 1) → T (N 2) → T (N 3) → T (N 4) → T (N 11) → (map keys : List ℕ) (budget lent : ℕ) → Always N Whatever (run map keys budget lent)
  unfolding run read_keys
  run_always nine one two three four eleven map keys budget lent =
      always_bind (file_always nine one two three four eleven map)
      (λ s _. always_bind (keys_always nine (length keys) keys) (λ ks _. play_always budget (min lent most_output) ks s []))
