-- Document 01, "Map file and run": reading a map file. A reader takes bytes to a value and the bytes after it, or to the
-- first refusal met: 9 by a number, 1 by a number out of its range when it is read, 2 to 4 and
-- 11 after a binding's last number, 9 by bytes that remain after the last binding.
use Rattle.std.specs.Prelude.{ℕ, zero, suc, Bool, List, [], ◌∷◌, leb, eqb}
use Rattle.std.proofs.Math.Option.{Option, none, some}
use Rattle.rules.specs.Basics.{Result, accept, refuse, unless}
use Rattle.rules.specs.Values.{mode_count, most_classes, most_actions, most_rules, most_parts, is_mode, is_class, is_sequence, is_status, is_repeat}
use Rattle.rules.specs.Values.{Event, Key, Class, Any, Fallthrough, Repeat, Once, Min, Max, Part, Step, Binding, Maps, Prefixes}
use Rattle.rules.specs.Tables.{ClassEntry, ModeEntry, Rule, Tables}
use Rattle.rules.specs.Calls.{Machine, graph_kind, fresh, bind}
use Rattle.rules.specs.Numbers.{number}

-- ---- readers

abbrev pub Reader : Type 0 → Type 0
Reader A = List ℕ → Result (A × List ℕ)

abbrev pub then_read : {A B : Type 0} → Result (A × List ℕ) → (A → Reader B) → Result (B × List ℕ)
then_read (accept r) f = f r.0 r.1
then_read (refuse n) f = refuse n

abbrev pub ◌>>=◌ : {A B : Type 0} → Reader A → (A → Reader B) → Reader B
◌>>=◌ r f = λ bs. then_read (r bs) f

abbrev pub give : {A : Type 0} → A → Reader A
give a = λ bs. accept (a, bs)

-- what is come to without reading
abbrev pub lifted : {A : Type 0} → Result A → Reader A
lifted (accept a) = give a
lifted (refuse n) = λ bs. refuse n

-- a number whose range is tested when it is read
abbrev pub such : (ℕ → Bool) → Reader ℕ
such p = do
  n ← number
  λ bs. unless (p n) 1 (accept (n, bs))

abbrev pub up_to : ℕ → Reader ℕ
up_to most = such (λ n. leb n most)

unfoldable pub times : {A : Type 0} → ℕ → Reader A → Reader (List A)
times zero r = give []
times (suc n) r = do
  a ← r
  rest ← times n r
  give (a ∷ rest)

-- a count, then that many
abbrev pub list_of : {A : Type 0} → ℕ → Reader A → Reader (List A)
list_of most r = do
  n ← up_to most
  times n r

-- 0 for no mode, else mode + 1
unfoldable pub optional : ℕ → Option ℕ
optional zero = none
optional (suc n) = some n

-- an optional mark is 0 or itself
unfoldable pub optional_mark : ℕ → Option ℕ
optional_mark zero = none
optional_mark (suc n) = some (suc n)

abbrev pub read_optional_mode : Reader (Option ℕ)
read_optional_mode = do
  n ← up_to mode_count
  give (optional n)

-- a list is a count, then actions
abbrev pub read_actions : Reader (List ℕ)
read_actions = list_of most_actions number

-- ---- classes, modes, rules

abbrev pub read_class : Reader ClassEntry
read_class = do
  c ← such is_class
  low ← number
  high ← such (leb low)
  give (record { class = c; low = low; high = high })

abbrev pub read_mode : Reader ModeEntry
read_mode = do
  enter ← read_actions
  unmapped ← read_actions
  next ← read_optional_mode
  give (record { enter = enter; unmapped = unmapped; next = next })

abbrev pub read_rule : Reader Rule
read_rule = do
  mode ← such is_mode
  low ← number
  high ← such (leb low)
  s ← such is_sequence
  status ← such is_status
  give (record { mode = mode; low = low; high = high; sequence = s; status = status })

abbrev pub read_tables : Reader Tables
read_tables = do
  classes ← list_of most_classes read_class
  modes ← list_of mode_count read_mode
  rules ← list_of most_rules read_rule
  give (record { classes = classes; modes = modes; rules = rules })

-- ---- bindings

-- 0 once; 1 min and 2 max, each with n
unfoldable pub repeat_by : ℕ → Reader Repeat
repeat_by zero = give Once
repeat_by (suc zero) = do n ← such is_repeat; give (Min n)
repeat_by (suc (suc k)) = do n ← such is_repeat; give (Max n)

-- 0 key and 1 class, each with a value; 2 any, 3 fallthrough
unfoldable pub event_by : ℕ → Reader Event
event_by zero = do n ← number; give (Key n)
event_by (suc zero) = do n ← such is_class; give (Class n)
event_by (suc (suc zero)) = give Any
event_by (suc (suc (suc k))) = give Fallthrough

abbrev pub read_part : Reader Part
read_part = do
  r ← up_to 2
  rep ← repeat_by r
  e ← up_to 3
  ev ← event_by e
  give (record { repeat = rep; event = ev })

-- a flag, 0 or 1, then list, next mode, fallthrough and mark
abbrev pub read_step : Reader Step
read_step = do
  flag ← up_to 1
  actions ← read_actions
  next ← read_optional_mode
  fall ← read_optional_mode
  mark ← number
  give (record { flag = eqb flag 1; actions = actions; next = next; fallthrough = fall; mark = optional_mark mark })

-- 0 a mapping, 1 a prefix, 2 a prefix with a step
unfoldable pub binding_by : ℕ → ℕ → List Part → Reader Binding
binding_by zero mode path = do st ← read_step; give (Maps mode path st)
binding_by (suc zero) mode path = give (Prefixes mode path none)
binding_by (suc (suc k)) mode path = do st ← read_step; give (Prefixes mode path (some st))

-- kind, mode, how many parts, and these; behind them kinds 0 and 2 have a step
abbrev pub read_binding : Reader Binding
read_binding = do
  kind ← up_to 2
  mode ← such is_mode
  path ← list_of most_parts read_part
  binding_by kind mode path

-- each is called after its last number
unfoldable pub read_bindings : ℕ → Machine graph_kind → Reader (Machine graph_kind)
read_bindings zero s = give s
read_bindings (suc n) s = do
  x ← read_binding
  s₁ ← lifted (bind graph_kind x s)
  read_bindings n s₁

-- ---- the file

-- 9 bytes remain
unfoldable pub at_end : {A : Type 0} → Result (A × List ℕ) → Result A
at_end (refuse n) = refuse n
at_end (accept r) = elim r.1 [ [] ↦ accept r.0 | b ∷ bs ↦ refuse 9 ]

abbrev pub read_machine : Reader (Machine graph_kind)
read_machine = do
  t ← read_tables
  n ← number
  read_bindings n (fresh graph_kind t)

unfoldable pub read_map : List ℕ → Result (Machine graph_kind)
read_map bs = at_end (read_machine bs)

-- ---- everything above, to be opened by one name where a run is computed
unfoldable pub open-MapFile : Unit {0}
unfolding times optional optional_mark repeat_by event_by binding_by read_bindings at_end read_map
open-MapFile = tt
