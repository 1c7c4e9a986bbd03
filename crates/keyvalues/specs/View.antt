-- What the declared types of values and the words that they are kept in mean, in the values of the rules. Every word decodes to
-- something.
use Rattle.std.specs.Prelude
use Rattle.std.specs.Prelude.{Some, None, Ok, Err, ℕ, zero, suc, ◌+◌, ◌-◌, ◌/◌, ◌%◌, Bool, true, false, List, [], ◌∷◌, ◌++◌, map, ltb, eqb, length, take, drop, replicate, if◌then◌else◌}
use Rattle.std.proofs.Math.Option.{Option, none, some}
use Rattle.std.proofs.Math.Seq.{paste}
use Rattle.rules.specs.Basics.{Result, accept, refuse}
use Rattle.rules.specs.Values as v
use Rattle.rules.specs.Tables.{ClassEntry}
use Rattle.rules.specs.Graph as g
use Rattle.rules.specs.Calls as calls
use Rattle.keyvalues.specs.declared.refusal.Refusal.{Refusal}
use Rattle.keyvalues.specs.declared.refusal.Refusal.TheVariants.{OutOfRange, NodesFull, EdgesFull, OtherMode, QueueFull, SequenceFull, TrailFull, NoBudget, Malformed, OutputFull, CallsFull, CountOverflow}
use Rattle.keyvalues.specs.declared.event.EdgeEvent.{EdgeEvent}
use Rattle.keyvalues.specs.declared.event.EdgeEvent.TheVariants.{Key, Class, Any, Fallthrough}
use Rattle.keyvalues.specs.declared.event.EdgeRepeat.{EdgeRepeat}
use Rattle.keyvalues.specs.declared.event.EdgeRepeat.TheVariants.{Once, Min, Max}
use Rattle.keyvalues.specs.declared.actions.Actions.{Actions}
use Rattle.keyvalues.specs.declared.step.Step.{Step}
use Rattle.keyvalues.specs.declared.path.EdgePathPart.{EdgePathPart}
use Rattle.keyvalues.specs.declared.path.EdgePath.{EdgePath}
use Rattle.keyvalues.specs.declared.node.NodeAction.{NodeAction}
use Rattle.keyvalues.specs.declared.node.NodeAction.TheVariants.{Empty, Root, Step as Holds}
use Rattle.keyvalues.specs.declared.node.Node.{Node}
use Rattle.keyvalues.specs.declared.node.NodeWords.{NodeWords}
use Rattle.keyvalues.specs.declared.class.ClassWord.{ClassWord}
use Rattle.keyvalues.specs.declared.tables.ModeWords.{ModeWords}
use Rattle.keyvalues.specs.declared.tables.RuleWord.{RuleWord}
use Rattle.keyvalues.specs.declared.tables.TableWords.{TableWords}

-- ---- the declared types

abbrev pub maybe_of : Prelude.Option ℕ → Option ℕ
maybe_of None = none
maybe_of (Some n) = some n

abbrev pub event_of : EdgeEvent → v.Event
event_of (Key k) = v.Key k
event_of (Class k) = v.Class k
event_of Any = v.Any
event_of Fallthrough = v.Fallthrough

abbrev pub repeat_of : EdgeRepeat → v.Repeat
repeat_of Once = v.Once
repeat_of (Min n) = v.Min n
repeat_of (Max n) = v.Max n

unfoldable pub part_of : EdgePathPart → v.Part
part_of p = record { repeat = repeat_of p.repeat; event = event_of p.event }

-- the parts that are there
abbrev pub path_of : EdgePath → List v.Part
path_of p = map part_of (take p.count p.parts)

-- the actions that are there
abbrev pub actions_by : Actions → List ℕ
actions_by a = take a.count a.items

-- a step with the actions that are there
unfoldable pub step_of : Step → v.Step
step_of s = record {
  flag = s.unmapped;
  actions = actions_by s.actions;
  next = maybe_of s.next;
  fallthrough = maybe_of s.fallthrough;
  mark = maybe_of s.mark;
}

unfoldable pub action_of : NodeAction → g.NodeAction
action_of Empty = g.Empty
action_of Root = g.Root
action_of (Holds s) = g.Holds (step_of s)

-- an action that is a step
unfoldable pub holds_step : g.NodeAction → Bool
holds_step g.Empty = false
holds_step g.Root = false
holds_step (g.Holds s) = true

unfoldable pub node_of : Node → g.Node
node_of n = record { mode = n.mode; action = action_of n.action }

-- ---- answers

-- the number of a refusal
abbrev pub number_of : Refusal → ℕ
number_of OutOfRange = 1
number_of NodesFull = 2
number_of EdgesFull = 3
number_of OtherMode = 4
number_of QueueFull = 5
number_of SequenceFull = 6
number_of TrailFull = 7
number_of NoBudget = 8
number_of Malformed = 9
number_of OutputFull = 10
number_of CallsFull = 11
number_of CountOverflow = 12

-- what a call came to, where its value means what f says
abbrev pub told : {A B : Type 0} → (A → B) → Prelude.Result A Refusal → Result B
told f (Ok a) = accept (f a)
told f (Err r) = refuse (number_of r)

-- what a call that gives nothing answers
abbrev pub said_of : Prelude.Result (Unit {0}) Refusal → calls.Answer
said_of (Ok _) = calls.Accepted
said_of (Err r) = calls.Refused (number_of r)

-- what a call leaves and answers: refused, what was there before
unfoldable pub settled : {A : Type 0} → A → Result A → A × calls.Answer
settled old (accept new) = (new, calls.Accepted)
settled old (refuse n) = (old, calls.Refused n)

-- ---- items that are copied

-- n items of src from one place on, in dst from another on; where they do not fit, dst
unfoldable pub copied : {A : Type 0} → List A → ℕ → List A → ℕ → ℕ → List A
copied dst to src from n =
    if ltb (length dst) (to + n) then dst else (if ltb (length src) (from + n) then dst else paste dst to (drop from src) n)

-- ---- what a caller hands over

-- a list with as many elements as the count says, also where the count is past the array's end
unfoldable pub fit : {A : Type 0} → A → ℕ → List A → List A
fit d n xs = take n (xs ++ replicate n d)

unfoldable pub no_part : v.Part
no_part = record { repeat = v.Once; event = v.Any }

-- a count out of its range shows
abbrev pub whole_path : EdgePath → List v.Part
whole_path p = fit no_part p.count (map part_of p.parts)

abbrev pub whole_actions : Actions → List ℕ
whole_actions a = fit 0 a.count a.items

abbrev pub whole_step : Step → v.Step
whole_step s = record {
  flag = s.unmapped;
  actions = whole_actions s.actions;
  next = maybe_of s.next;
  fallthrough = maybe_of s.fallthrough;
  mark = maybe_of s.mark;
}

-- a step that may be missing, with the actions that are there, and as it is handed over
abbrev pub steps_of : Prelude.Option Step → Option v.Step
steps_of None = none
steps_of (Some s) = some (step_of s)

abbrev pub whole_steps : Prelude.Option Step → Option v.Step
whole_steps None = none
whole_steps (Some s) = some (whole_step s)

-- the call of a kind, which is 0 for a mapping, 1 for a prefix and 2 for a prefix with the step
unfoldable pub call_of : ℕ → ℕ → List v.Part → v.Step → v.Binding
call_of zero mode path st = v.Maps mode path st
call_of (suc zero) mode path st = v.Prefixes mode path none
call_of (suc (suc k)) mode path st = v.Prefixes mode path (some st)

-- ---- words

-- an event's code: no two codes have the same event
unfoldable pub event_at : ℕ → v.Event
event_at c =
    if ltb c 65536
    then v.Key c
    else
    (if ltb c 131072
    then v.Class (c - 65536)
    else (if eqb c 131072 then v.Any else (if eqb c 131073 then v.Fallthrough else v.Key c)))

-- the code of an event
unfoldable pub event_code : v.Event → ℕ
event_code (v.Key k) = k
event_code (v.Class c) = 65536 + c
event_code v.Any = 131072
event_code v.Fallthrough = 131073

unfoldable pub opt_of : ℕ → Option ℕ
opt_of zero = none
opt_of (suc n) = some (n % 65536)

abbrev pub four_of : ℕ → List ℕ
four_of w = w % 65536 ∷ w / 65536 % 65536 ∷ w / 65536 / 65536 % 65536 ∷ w / 65536 / 65536 / 65536 % 65536 ∷ []

-- flag, count, next, fallthrough and mark, lowest first
unfoldable pub step_at : ℕ → ℕ → v.Step
step_at h w = record {
  flag = eqb (h % 2) 1;
  actions = take (h / 2 % 8) (four_of w);
  next = opt_of (h / 2 / 8 % 131072);
  fallthrough = opt_of (h / 2 / 8 / 131072 % 131072);
  mark = opt_of (h / 2 / 8 / 131072 / 131072 % 131072);
}

unfoldable pub action_at : ℕ → v.Step → g.NodeAction
action_at k s = if eqb k 0 then g.Empty else (if eqb k 1 then g.Root else g.Holds s)

-- a node's two words: mode, kind and step; actions
unfoldable pub node_at : ℕ → ℕ → g.Node
node_at h w = record { mode = h % 128; action = action_at (h / 128 % 4) (step_at (h / 128 / 4) w) }

abbrev pub node_in : NodeWords → g.Node
node_in p = node_at p.head p.acts

unfoldable pub class_at : ClassWord → ClassEntry
class_at w = record { class = w.word % 65536; low = w.word / 65536 % 65536; high = w.word / 65536 / 65536 % 65536 }

-- the graph of nodes and edges
abbrev pub graph_by : List g.Node → List g.Edge → g.Graph
graph_by ns es = record { nodes = ns; edges = es }

-- ---- the tables' words: the entries that count

abbrev pub class_table : TableWords → List ClassEntry
class_table t = map class_at (take t.class_count t.classes)

abbrev pub mode_table : TableWords → List ModeWords
mode_table t = take t.mode_count t.modes

abbrev pub rule_table : TableWords → List RuleWord
rule_table t = take t.rule_count t.rules
