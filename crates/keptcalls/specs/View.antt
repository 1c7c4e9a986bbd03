-- What the words of kept calls mean, in the values of the rules. Any words are some call: 32 with a part each, one with the
-- small numbers of the call and its step, one with the step's actions.
use Rattle.std.specs.Prelude.{ℕ, ◌/◌, ◌%◌, List, map, eqb, take, if◌then◌else◌}
use Rattle.std.proofs.Math.Option.{none, some}
use Rattle.rules.specs.Basics.{Result, unless}
use Rattle.rules.specs.Values as v
use Rattle.rules.specs.Graph.{Graph, add_mapping, add_prefix}
use Rattle.rules.specs.KeyLoop.{State}
use Rattle.rules.specs.Calls.{Machine, graph_kind}
use Rattle.rules.specs.MapFile.{optional_mark}
use Rattle.keyvalues.specs.View.{four_of, opt_of, path_of, step_of, steps_of, whole_path, whole_step, whole_steps, call_of}
use Rattle.keptcalls.specs.declared.binding.Binding.{Binding}
use Rattle.keptcalls.specs.declared.binding.Binding.TheVariants.{Mapping, Prefix}
use Rattle.keptcalls.specs.declared.words.Kind.{Kind}
use Rattle.keptcalls.specs.declared.words.Kind.TheVariants.{Mapping as AMapping, Prefix as APrefix, PrefixWithStep}
use Rattle.keptcalls.specs.declared.words.CallWords.{CallWords}

-- ---- a call by value

abbrev pub binding_in : Binding → v.Binding
binding_in (Mapping mode path step) = v.Maps mode (whole_path path) (whole_step step)
binding_in (Prefix mode path step) = v.Prefixes mode (whole_path path) (whole_steps step)

-- the same with the parts and the actions that are there
abbrev pub binding_there : Binding → v.Binding
binding_there (Mapping mode path step) = v.Maps mode (path_of path) (step_of step)
binding_there (Prefix mode path step) = v.Prefixes mode (path_of path) (steps_of step)

-- the number of a kind, in a call's head
abbrev pub kind_number : Kind → ℕ
kind_number (AMapping step) = 0
kind_number APrefix = 1
kind_number (PrefixWithStep step) = 2

-- the call of a kind, with its mode and its path
abbrev pub call_as : Kind → ℕ → List v.Part → v.Binding
call_as (AMapping step) mode path = v.Maps mode path (whole_step step.now)
call_as APrefix mode path = v.Prefixes mode path none
call_as (PrefixWithStep step) mode path = v.Prefixes mode path (some (whole_step step.now))

-- ---- parts

-- an event by its kind and its value: every number is some kind
unfoldable pub event_by : ℕ → ℕ → v.Event
event_by kind n = if eqb kind 0 then v.Key n else (if eqb kind 1 then v.Class n else (if eqb kind 2 then v.Any else v.Fallthrough))

unfoldable pub repeat_by : ℕ → ℕ → v.Repeat
repeat_by kind n = if eqb kind 0 then v.Once else (if eqb kind 1 then v.Min n else v.Max n)

-- the event's value and kind, then the repeat's kind and number, lowest first
unfoldable pub part_at : ℕ → v.Part
part_at c = record {
  repeat = repeat_by (c / 65536 / 4 % 4) (c / 65536 / 4 / 4 % 256);
  event = event_by (c / 65536 % 4) (c % 65536);
}

-- what there is room for: the number of a repeat has eight bits
unfoldable pub cut_repeat : v.Repeat → v.Repeat
cut_repeat v.Once = v.Once
cut_repeat (v.Min n) = v.Min (n % 256)
cut_repeat (v.Max n) = v.Max (n % 256)

unfoldable pub cut_part : v.Part → v.Part
cut_part p = record { repeat = cut_repeat p.repeat; event = p.event }

abbrev pub parts_in : List ℕ → List v.Part
parts_in cs = map part_at cs

-- ---- the call

-- flag, count, next, fallthrough and mark, lowest first
unfoldable pub step_at : ℕ → ℕ → v.Step
step_at h w = record {
  flag = eqb (h % 2) 1;
  actions = take (h / 2 % 8) (four_of w);
  next = opt_of (h / 2 / 8 % 32);
  fallthrough = opt_of (h / 2 / 8 / 32 % 32);
  mark = optional_mark (h / 2 / 8 / 32 / 32 % 65536);
}

-- kind, mode, how many parts, and the step, lowest first
unfoldable pub call_by : List ℕ → ℕ → ℕ → v.Binding
call_by ps h w = call_of (h % 4) (h / 4 % 16) (take (h / 4 / 16 % 64) (parts_in ps)) (step_at (h / 4 / 16 / 64) w)

abbrev pub call_in : CallWords → v.Binding
call_in w = call_by w.parts w.head w.actions

-- the first n calls
unfoldable pub kept_in : ℕ → List CallWords → List v.Binding
kept_in n ws = map call_in (take n ws)

-- ---- a call kept

abbrev pub machine_with : Graph → List v.Binding → State ℕ → Machine graph_kind
machine_with g kept x = record { bindings = g; kept = kept; state = x }

-- a binding call's work on the graph: 1 out of range, then the refusals of adding
unfoldable pub graph_part : v.Binding → Graph → Result Graph
graph_part (v.Maps mode path st) g = unless (v.map_valid mode path st) 1 (add_mapping mode path st g)
graph_part (v.Prefixes mode path st) g = unless (v.prefix_valid mode path st) 1 (add_prefix mode path st g)
