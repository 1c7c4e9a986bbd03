-- Document 01, "From the Rust to tables": the values, their limits and ranges, context, step and pair.
-- Numbers are natural numbers. That a value fits 16 bits is a matter of the code's types and is not tested here; every
-- other range is, by a function named after the value (`is_…` for a number, `…_valid` for what is made of several).
use Rattle.std.specs.Prelude.{ℕ, ◌+◌, ◌-◌, ◌*◌, Bool, true, false, ◌&&◌, ◌||◌, List, [], leb, ltb, eqb, length, if◌then◌else◌}
use Rattle.std.proofs.Math.Option.{Option, none, some}
use Rattle.rules.specs.Basics.{Result, accept, unless, every, present}

-- ---- limits

-- the largest value of 16 bits
abbrev pub largest : ℕ
largest = 65535

-- modes 0–15
abbrev pub mode_count : ℕ
mode_count = 16

-- classes 0–255
abbrev pub class_count : ℕ
class_count = 256

-- sequences 0–7
abbrev pub sequence_count : ℕ
sequence_count = 8

-- statuses 0–4
abbrev pub status_count : ℕ
status_count = 5

-- entries of the class table
abbrev pub most_classes : ℕ
most_classes = 16

-- actions of an enter list, an unmapped list or a step
abbrev pub most_actions : ℕ
most_actions = 4

-- sequence rules
abbrev pub most_rules : ℕ
most_rules = 64

-- nodes beside the mode roots; openings of the list reader
abbrev pub most_nodes : ℕ
most_nodes = 1024

abbrev pub most_edges : ℕ
most_edges = 2048

-- parts of a path
abbrev pub most_parts : ℕ
most_parts = 32

-- accepted binding calls that a machine keeps (document 02, request (i))
abbrev pub most_kept : ℕ
most_kept = 1024

-- the n of Min and Max
abbrev pub most_repeats : ℕ
most_repeats = 255

-- waiting pairs
abbrev pub most_queued : ℕ
most_queued = 256

-- pairs of a sequence
abbrev pub most_tracked : ℕ
most_tracked = 64

-- keys on the trail
abbrev pub most_trail : ℕ
most_trail = 64

-- ---- keys, modes, classes, sequences, statuses

-- a key from here on decomposes into the first key and the rest
abbrev pub composed : ℕ
composed = 32768

abbrev pub decomposes : ℕ → Bool
decomposes k = leb composed k

abbrev pub first_key : ℕ
first_key = 27

abbrev pub rest_of : ℕ → ℕ
rest_of k = k - composed

abbrev pub is_mode : ℕ → Bool
is_mode m = ltb m mode_count

abbrev pub is_class : ℕ → Bool
is_class c = ltb c class_count

abbrev pub is_sequence : ℕ → Bool
is_sequence s = ltb s sequence_count

abbrev pub is_status : ℕ → Bool
is_status s = ltb s status_count

abbrev pub is_repeat : ℕ → Bool
is_repeat n = leb n most_repeats

-- a mark that a step sets is 1 or more
abbrev pub is_mark : ℕ → Bool
is_mark m = leb 1 m

abbrev pub default_mode : ℕ
default_mode = 0

abbrev pub default_action : ℕ
default_action = 0

-- ---- events, repeats, paths

pub data Event : Type 0 where
  Key : ℕ → Event
  Class : ℕ → Event
  Any : Event
  Fallthrough : Event

unfoldable pub same_event : Event → Event → Bool
same_event (Key a) e = elim e [ Key b ↦ eqb a b | Class b ↦ false | Any ↦ false | Fallthrough ↦ false ]
same_event (Class a) e = elim e [ Key b ↦ false | Class b ↦ eqb a b | Any ↦ false | Fallthrough ↦ false ]
same_event Any e = elim e [ Key b ↦ false | Class b ↦ false | Any ↦ true | Fallthrough ↦ false ]
same_event Fallthrough e = elim e [ Key b ↦ false | Class b ↦ false | Any ↦ false | Fallthrough ↦ true ]

pub data Repeat : Type 0 where
  Once : Repeat
  Min : ℕ → Repeat
  Max : ℕ → Repeat

-- A path is a list of parts
pub record Part : Type 0 where
  pub repeat : Repeat
  pub event : Event

unfoldable pub event_valid : Event → Bool
event_valid (Key a) = true
event_valid (Class a) = is_class a
event_valid Any = true
event_valid Fallthrough = true

unfoldable pub repeat_valid : Repeat → Bool
repeat_valid Once = true
repeat_valid (Min n) = is_repeat n
repeat_valid (Max n) = is_repeat n

unfoldable pub part_valid : Part → Bool
part_valid p = repeat_valid p.repeat && event_valid p.event

unfoldable pub path_valid : List Part → Bool
path_valid ps = leb (length ps) most_parts && every part_valid ps

-- ---- context

-- `typed`: whether the count was typed, as a 0 may be (document 02, request (vii))
pub record Context : Type 0 where
  pub count : ℕ
  pub typed : Bool
  pub mark : ℕ

-- both 0 at first, and no count typed
unfoldable pub no_context : Context
no_context = record { count = 0; typed = false; mark = 0 }

-- the count step types: 12 the count would pass the largest value (document 02, request (iv))
unfoldable pub counted : ℕ → Context → Result Context
counted digit c =
    let n = c.count * 10 + digit in
    unless (leb n largest) 12 (accept (record { count = n; typed = true; mark = c.mark }))

-- the event hook: class 0 with a digit's key counts, and Any sets the mark
unfoldable pub hook : Event → ℕ → Context → Result Context
hook (Key a) k c = accept c
hook (Class a) k c = if eqb a 0 && (leb 48 k && leb k 57) then counted (k - 48) c else accept c
hook Any k c = accept (record { count = c.count; typed = c.typed; mark = k })
hook Fallthrough k c = accept c

-- `take`: the context, and the fresh one that it leaves
abbrev pub take : Context → Context × Context
take c = (c, no_context)

-- the count of `over` if it was typed and its mark if it is not 0, else those of c; typed if either was
unfoldable pub merge : Context → Context → Context
merge c over = record {
  count = if over.typed then over.count else c.count;
  typed = c.typed || over.typed;
  mark = if eqb over.mark 0 then c.mark else over.mark;
}

-- ---- step

pub record Step : Type 0 where
  pub flag : Bool
  pub actions : List ℕ
  pub next : Option ℕ
  pub fallthrough : Option ℕ
  pub mark : Option ℕ

unfoldable pub default_step : Step
default_step = record { flag = false; actions = []; next = none; fallthrough = none; mark = none }

unfoldable pub step_valid : Step → Bool
step_valid s =
    leb (length s.actions) most_actions
    && (present is_mode s.next && (present is_mode s.fallthrough && present is_mark s.mark))

-- ---- the arguments of a map and of a prefix call

unfoldable pub map_valid : ℕ → List Part → Step → Bool
map_valid mode path s = is_mode mode && (path_valid path && step_valid s)

unfoldable pub prefix_valid : ℕ → List Part → Option Step → Bool
prefix_valid mode path none = is_mode mode && path_valid path
prefix_valid mode path (some s) = map_valid mode path s

-- the call itself, as it is read, kept and written
pub data Binding : Type 0 where
  Maps : ℕ → List Part → Step → Binding
  Prefixes : ℕ → List Part → Option Step → Binding

unfoldable pub binding_valid : Binding → Bool
binding_valid (Maps mode path st) = map_valid mode path st
binding_valid (Prefixes mode path st) = prefix_valid mode path st

-- ---- pair

-- (action, count, mark), the count typed or not
pub record Pair : Type 0 where
  pub action : ℕ
  pub context : Context

abbrev pub pair : (action count : ℕ) → Bool → (mark : ℕ) → Pair
pair a count typed mark = record { action = a; context = record { count = count; typed = typed; mark = mark } }

unfoldable pub default_pair : Pair
default_pair = pair default_action 0 false 0

-- ---- everything above, to be opened by one name where a run is computed
unfoldable pub open-Values : Unit {0}
unfolding same_event event_valid repeat_valid part_valid path_valid no_context counted hook merge default_step step_valid map_valid prefix_valid binding_valid default_pair
open-Values = tt
