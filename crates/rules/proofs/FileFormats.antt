-- The reader of a map file and its writer undo each other, because those of each part do, in the same order (Formats): the
-- range that a reader tests is the one that open or the call tests. Tables and bindings are written where the machine that the
-- bindings' calls make of the fresh one is read.
use Prim.Native.Nat.{ℕ, zero, suc, ◌≤◌, ◌<◌}
use native.Mathlib.Omega.{arith}
use mathlib.Core.Path.{◌≡◌, refl, sym, ap, ◌∙◌}
use mathlib.Core.Bool.{Bool, true, false, and_assoc, and-true}
use mathlib.Core.Option.{Option, none, some}
use mathlib.Core.List.{List, [], ◌∷◌, ◌++◌, flat_map, append-nil}
use lib.Dec.{T, leb, eqb, leb→le, le→leb}
use lib.ListN.{length}
use Rattle.rules.specs.Basics.{Result, accept, refuse, ◌>>=◌, every, present}
use Rattle.rules.specs.Values.{mode_count, most_classes, most_actions, most_rules, most_parts, is_mode, is_class, is_sequence, is_status, is_repeat, is_mark}
use Rattle.rules.specs.Values.{Event, Key, Class, Any, Fallthrough, Repeat, Once, Min, Max, Binding, Maps, Prefixes, event_valid, repeat_valid, part_valid, path_valid, step_valid, map_valid, prefix_valid, binding_valid}
use Rattle.rules.specs.Tables.{Tables, class_valid, mode_valid, rule_valid, tables_valid}
use Rattle.rules.specs.Calls.{Machine, graph_kind, bind, bind_all, fresh}
use Rattle.rules.specs.Numbers.{number}
use Rattle.rules.specs.MapFile.{then_read, give, such, up_to, list_of, optional, optional_mark, read_optional_mode, read_actions, read_class, read_mode, read_rule, read_tables, repeat_by, event_by, read_part, read_step, lifted, binding_by, read_binding, read_bindings, read_machine, at_end, read_map}
use Rattle.rules.specs.Writing.{alone, listed, mode_number, mark_number, flag_number, class_numbers, mode_numbers, rule_numbers, tables_numbers, repeat_numbers, event_numbers, part_numbers, step_numbers, binding_numbers, map_numbers, in_bytes, write_map}
use Rattle.rules.proofs.Tests.{T_and}
use Rattle.rules.proofs.Numbers.{never, Bytes}
use Rattle.rules.proofs.Kept.{passed, bound}
use Rattle.rules.proofs.Formats.{small, Undoes, Wrote, Like, Then, Format, along, nested, coming, then_any, come, then, last, value, a_number, such_number, list_of_lem, Way, way, Goes, choice}

-- ---- lists of actions, and what may be missing

every_true : {A : Type 0} (xs : List A) → every (λ _. true) xs ≡ true
unfolding every
every_true [] = refl
every_true (x ∷ xs) = every_true xs

actions : Format (λ xs. leb (length xs) most_actions) (listed alone) read_actions
actions = value (λ xs. xs) (λ xs h. (refl, rw (every_true xs, and-true) h)) (λ xs h. (refl, (T_and (leb (length xs) most_actions) _ h).0)) (list_of_lem a_number most_actions)

optional_mode : Format (present is_mode) (λ o. alone (mode_number o)) read_optional_mode
unfolding mode_number optional present
optional_mode = value mode_number there back (last (such_number (λ n. leb n mode_count)) optional)
  where
    there : (o : Option ℕ) → T (present is_mode o) → (optional (mode_number o) ≡ o) × T (leb (mode_number o) mode_count)
    there none h = (refl, tt)
    there (some m) h = (refl, h)

    back : (n : ℕ) → T (leb n mode_count) → (alone n ≡ alone (mode_number (optional n))) × T (present is_mode (optional n))
    back zero h = (refl, tt)
    back (suc n) h = (refl, h)

-- ---- tables

class : Format class_valid class_numbers read_class
unfolding class_valid class_numbers
class =
    value (λ x. (x.class, (x.low, x.high))) (λ x h. (refl, h)) (λ c h. (refl, h))
    (then (such_number is_class) (λ c. then a_number (λ l. last (such_number (leb l)) (λ h. record { class = c; low = l; high = h }))))

mode : Format mode_valid mode_numbers read_mode
unfolding mode_valid mode_numbers
mode =
    value (λ x. (x.enter, (x.unmapped, x.next))) (λ x h. (refl, h)) (λ c h. (refl, h))
    (then actions (λ e. then actions (λ u. last optional_mode (λ n. record { enter = e; unmapped = u; next = n }))))

rule : Format rule_valid rule_numbers read_rule
unfolding rule_valid rule_numbers
rule =
    value (λ x. (x.mode, (x.low, (x.high, (x.sequence, x.status))))) (λ x h. (refl, h)) (λ c h. (refl, h))
    (then (such_number is_mode) (λ m. then a_number (λ l. then (such_number (leb l)) (λ h. then (such_number is_sequence) (λ q. last (such_number is_status) (λ s. record { mode = m; low = l; high = h; sequence = q; status = s }))))))

tables : Format tables_valid tables_numbers read_tables
unfolding tables_valid tables_numbers
tables =
    value (λ x. (x.classes, (x.modes, x.rules))) (λ x h. (refl, simp and_assoc (simp and_assoc at h))) (λ c h. (refl, simp and_assoc (simp and_assoc at h)))
    (then (list_of_lem class most_classes) (λ c. then (list_of_lem mode mode_count) (λ m. last (list_of_lem rule most_rules) (λ r. record { classes = c; modes = m; rules = r }))))

-- ---- repeats, events and parts

-- no number is larger than the largest kind
over : {X : Type 0} (most k : ℕ) → most < k → T (leb k most) → X
over most k l h = let g : k ≤ most = leb→le k most h in absurd (omega arith)

repeat : Format repeat_valid repeat_numbers (λ bs. then_read (up_to 2 bs) repeat_by)
unfolding repeat_by repeat_valid repeat_numbers
repeat = choice 2 ways goes
  where
    ways : (k : ℕ) → Way repeat_valid repeat_numbers 2 k (repeat_by k)
    ways zero = way (come true Once) (λ h c. refl)
    ways (suc zero) = way (last (such_number is_repeat) Min) (λ h c. refl)
    ways (suc (suc zero)) = way (last (such_number is_repeat) Max) (λ h c. refl)
    ways (suc (suc (suc k))) = way (last (such_number is_repeat) Max) (λ h c. over 2 (suc (suc (suc k))) (omega arith) h)

    goes : (x : Repeat) → Goes 2 ways x
    goes Once = record { kind = 0; within = tt; rest = tt; made = refl }
    goes (Min n) = record { kind = 1; within = tt; rest = n; made = refl }
    goes (Max n) = record { kind = 2; within = tt; rest = n; made = refl }

event : Format event_valid event_numbers (λ bs. then_read (up_to 3 bs) event_by)
unfolding event_by event_valid event_numbers
event = choice 3 ways goes
  where
    ways : (k : ℕ) → Way event_valid event_numbers 3 k (event_by k)
    ways zero = way (last a_number Key) (λ h c. refl)
    ways (suc zero) = way (last (such_number is_class) Class) (λ h c. refl)
    ways (suc (suc zero)) = way (come true Any) (λ h c. refl)
    ways (suc (suc (suc zero))) = way (come true Fallthrough) (λ h c. refl)
    ways (suc (suc (suc (suc k)))) = way (come true Fallthrough) (λ h c. over 3 (suc (suc (suc (suc k)))) (omega arith) h)

    goes : (x : Event) → Goes 3 ways x
    goes (Key n) = record { kind = 0; within = tt; rest = n; made = refl }
    goes (Class n) = record { kind = 1; within = tt; rest = n; made = refl }
    goes Any = record { kind = 2; within = tt; rest = tt; made = refl }
    goes Fallthrough = record { kind = 3; within = tt; rest = tt; made = refl }

part : Format part_valid part_numbers read_part
unfolding part_valid part_numbers
part =
    value (λ x. (x.repeat, x.event)) (λ x h. (refl, h)) (λ c h. (refl, h))
    (nested (up_to 2) repeat_by _ (then repeat (λ r. nested (up_to 3) event_by _ (last event (λ e. record { repeat = r; event = e })))))

-- ---- steps

flag : Format (λ _. true) (λ b. alone (flag_number b)) (λ bs. then_read (up_to 1 bs) (λ n. give (eqb n 1)))
unfolding flag_number
flag = value flag_number there back (last (such_number (λ n. leb n 1)) (λ n. eqb n 1))
  where
    there : (b : Bool) → Unit {0} → (eqb (flag_number b) 1 ≡ b) × T (leb (flag_number b) 1)
    there true h = (refl, tt)
    there false h = (refl, tt)

    back : (n : ℕ) → T (leb n 1) → (alone n ≡ alone (flag_number (eqb n 1))) × Unit {0}
    back zero h = (refl, tt)
    back (suc zero) h = (refl, tt)
    back (suc (suc n)) h = over 1 (suc (suc n)) (omega arith) h

mark : Format (present is_mark) (λ o. alone (mark_number o)) (λ bs. then_read (number bs) (λ n. give (optional_mark n)))
unfolding mark_number optional_mark present
mark = value mark_number there back (last a_number optional_mark)
  where
    there : (o : Option ℕ) → T (present is_mark o) → (optional_mark (mark_number o) ≡ o) × Unit {0}
    there none h = (refl, tt)
    there (some zero) h = absurd h
    there (some (suc m)) h = (refl, tt)

    back : (n : ℕ) → Unit {0} → (alone n ≡ alone (mark_number (optional_mark n))) × T (present is_mark (optional_mark n))
    back zero h = (refl, tt)
    back (suc n) h = (refl, le→leb 1 (suc n) (omega arith))

step : Format step_valid step_numbers read_step
unfolding step_valid step_numbers
step =
    value (λ x. (x.flag, (x.actions, (x.next, (x.fallthrough, x.mark))))) (λ x h. (refl, h)) (λ c h. (refl, h))
    (nested (up_to 1) (λ n. give (eqb n 1)) _ (then flag (λ f. then actions (λ a. then optional_mode (λ n. then optional_mode (λ t.
    nested number (λ n. give (optional_mark n)) _ (last mark (λ m. record { flag = f; actions = a; next = n; fallthrough = t; mark = m }))))))))

-- ---- bindings

path : Format path_valid (listed part_numbers) (list_of most_parts read_part)
unfolding path_valid
path = list_of_lem part most_parts

binding : Format binding_valid binding_numbers read_binding
unfolding binding_by binding_valid map_valid prefix_valid binding_numbers
binding = choice 2 ways goes
  where
    ways : (k : ℕ) → Way binding_valid binding_numbers 2 k (λ bs. then_read (such is_mode bs) (λ mode cs. then_read (list_of most_parts read_part cs) (λ path. binding_by k mode path)))
    ways zero = way (then (such_number is_mode) (λ m. then path (λ p. last step (λ s. Maps m p s)))) (λ h c. refl)
    ways (suc zero) = way (then (such_number is_mode) (λ m. last path (λ p. Prefixes m p none))) (λ h c. refl)
    ways (suc (suc zero)) = way (then (such_number is_mode) (λ m. then path (λ p. last step (λ s. Prefixes m p (some s))))) (λ h c. refl)
    ways (suc (suc (suc k))) = way (then (such_number is_mode) (λ m. then path (λ p. last step (λ s. Prefixes m p (some s))))) (λ h c. over 2 (suc (suc (suc k))) (omega arith) h)

    goes : (x : Binding) → Goes 2 ways x
    goes (Maps m p s) = record { kind = 0; within = tt; rest = (m, (p, s)); made = refl }
    goes (Prefixes m p none) = record { kind = 1; within = tt; rest = (m, p); made = refl }
    goes (Prefixes m p (some s)) = record { kind = 2; within = tt; rest = (m, (p, s)); made = refl }

-- and its call
a_binding : (s : Machine graph_kind) → Undoes (λ x s₁. bind graph_kind x s ≡ accept s₁) binding_numbers (λ bs. then_read (read_binding bs) (λ x. lifted (bind graph_kind x s)))
a_binding s =
    along
    (λ x s₁ e. record { other = (x, tt); stands = record { middle = x; first = record { holds = (bound graph_kind x s s₁ e).holds; gives = refl }; second = e }; same = append-nil (binding_numbers x) })
    (λ (x, _) s₁ h. record { other = x; stands = ap (λ x. bind graph_kind x s) h.first.gives ∙ h.second; same = sym (append-nil (binding_numbers x)) })
    (then_any binding (λ x y h. coming (bind graph_kind y s)))

abbrev Adds : ℕ → Machine graph_kind → List Binding → Machine graph_kind → Type 0
Adds n s xs s₁ = (length xs ≡ n) × (bind_all graph_kind xs s ≡ accept s₁)

bindings : (n : ℕ) (s : Machine graph_kind) → Undoes (Adds n s) (flat_map binding_numbers) (read_bindings n s)
unfolding bind_all read_bindings flat_map
bindings zero s = along there (λ _ s₁ e. record { other = []; stands = (refl, e); same = refl }) (coming (accept s))
  where
    there : (xs : List Binding) (s₁ : Machine graph_kind) → Adds 0 s xs s₁ → Like (λ (_ : Unit {0}) s₁. accept s ≡ accept s₁) (λ _. []) (flat_map binding_numbers xs) s₁
    there [] s₁ h = record { other = tt; stands = h.1; same = refl }
    there (x ∷ xs) s₁ h = absurd (omega arith)
bindings (suc n) s = along there (λ (x, xs) s₁ h. record { other = x ∷ xs; stands = (ap suc h.second.0, ap (λ r. r >>= bind_all graph_kind xs) h.first ∙ h.second.1); same = refl }) (nested read_binding (λ x. lifted (bind graph_kind x s)) (read_bindings n) (then_any (a_binding s) (λ x s₁ e. bindings n s₁)))
  where
    there : (xs : List Binding) (s₁ : Machine graph_kind) → Adds (suc n) s xs s₁
        → Like (Then (λ x s₁. bind graph_kind x s ≡ accept s₁) (λ (x : Binding) s₁. Adds n s₁)) (λ (c : Binding × List Binding). binding_numbers c.0 ++ flat_map binding_numbers c.1) (flat_map binding_numbers xs) s₁
    there [] s₁ h = absurd (omega arith)
    there (x ∷ xs) s₁ h =
        let p = passed (bind graph_kind x s) (bind_all graph_kind xs) s₁ h.1 in
        let l : length xs ≡ n = omega arith in
        record { other = (x, xs); stands = record { middle = p.0; first = p.1; second = (l, p.2) }; same = refl }

-- ---- the file

-- tables that open accepts, and bindings whose calls, on the fresh machine with these tables, give the machine
pub record Makes (file : Tables × List Binding) (s : Machine graph_kind) : Type 0 where
  pub valid : T (tables_valid file.0)
  pub made : bind_all graph_kind file.1 (fresh graph_kind file.0) ≡ accept s

pub file : Undoes Makes (λ x. map_numbers x.0 x.1) read_machine
unfolding map_numbers listed
file =
    along
    (λ (t, xs) s h. record {
      other = (t, (length xs, xs));
      stands = record { middle = t; first = record { holds = h.valid; gives = refl }; second = record { middle = length xs; first = record { holds = tt; gives = refl }; second = (refl, h.made) } };
      same = refl;
    })
    (λ (t, (n, xs)) s h. record {
      other = (t, xs);
      stands = record { valid = h.first.holds; made = ap (λ t. bind_all graph_kind xs (fresh graph_kind t)) h.first.gives ∙ h.second.second.1 };
      same = ap (λ n. tables_numbers t ++ (n ∷ flat_map binding_numbers xs)) (h.second.second.0 ∙ sym h.second.first.gives);
    })
    (then_any tables (λ t t₁ h. then_any a_number (λ n n₁ k. bindings n₁ (fresh graph_kind t₁))))

-- what is written is read
pub reads_file : (t : Tables) (xs : List Binding) (s : Machine graph_kind) → Makes (t, xs) s → T (small (map_numbers t xs)) → read_map (write_map t xs) ≡ accept s
unfolding read_map write_map at_end
reads_file t xs s h fits = rw (← (append-nil (in_bytes (map_numbers t xs))), file.reads (t, xs) s [] h fits)

at_end_lem : (r : Result (Machine graph_kind × List ℕ)) (s : Machine graph_kind) → at_end r ≡ accept s → r ≡ accept (s, [])
unfolding at_end
at_end_lem (accept (s₁, [])) s e = let z : s₁ ≡ s = cc in ap (λ s. accept (s, [])) z
at_end_lem (accept (s₁, b ∷ bs)) s e = never 9 s e
at_end_lem (refuse n) s e = never n s e

-- the tables and bindings of bytes that reading accepts
pub found : (bs : List ℕ) (s : Machine graph_kind) → Bytes bs → read_map bs ≡ accept s → Wrote Makes (λ x. map_numbers x.0 x.1) s bs []
unfolding read_map
found bs s h e = file.writes bs [] s h (at_end_lem (read_machine bs) s e)
