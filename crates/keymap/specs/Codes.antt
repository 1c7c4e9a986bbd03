-- The numbers that C gets for the answers of the rules, and the calls that C makes with other arguments than the rules' calls.
use Rattle.std.specs.Prelude as Prelude
use Rattle.std.specs.Prelude.{Ok, Err, ℕ, ◌+◌, ◌*◌, List, leb, if◌then◌else◌}
use Rattle.std.proofs.Math.Option.{Option, none, some}
use Rattle.rules.specs.Basics.{Result, accept, refuse, ◌>>=◌, unless}
use Rattle.rules.specs.Calls.{Machine, graph_kind, bind, carry_over, settled, repeat_call, Answer, Accepted, Refused, Popped, Nothing, Pressed, PressRefused}
use Rattle.rules.specs.MapFile.{read_binding, at_end, read_map}
use Rattle.rules.specs.Run.{most_count, numbered}
use Rattle.keyvalues.specs.declared.refusal.Refusal.{Refusal}
use Rattle.keyvalues.specs.View.{number_of}

-- ---- answers

-- Acceptance is 0 and a refusal is its number. A key's answer is its rounds × 32, and the refusal's number more if it is
-- refused. A pair that was popped is action + count × 2^16 + mark × 2^32 + 2^48, and 2^49 more if its count was typed; no pair
-- is 0.
abbrev pub answer_code : Answer → ℕ
answer_code Accepted = 0
answer_code (Refused n) = n
answer_code (Popped p) = p.action + p.context.count * 65536 + p.context.mark * 4294967296 + 281474976710656 + (if p.context.typed then 562949953421312 else 0)
answer_code Nothing = 0
answer_code (Pressed rounds) = rounds * 32
answer_code (PressRefused n rounds) = rounds * 32 + n

-- the number of what was answered, or of the refusal
abbrev pub or_refusal : Prelude.Result ℕ Refusal → ℕ
or_refusal (Ok n) = n
or_refusal (Err r) = number_of r

-- what a call leaves, and its answer's number
abbrev pub coded : Machine graph_kind × Answer → Machine graph_kind × ℕ
coded r = (r.0, answer_code r.1)

-- find's: a refusal is its number, a node is (node + 1) × 32, and none is 0
abbrev pub find_code : Result (Option ℕ) → ℕ
find_code (refuse n) = n
find_code (accept none) = 0
find_code (accept (some node)) = (node + 1) * 32

-- ---- calls

-- open by the bytes of a map file: the machine of the map, with its tables and its bindings; refused, the machine as it was
abbrev pub open_map : Machine graph_kind → List ℕ → Machine graph_kind × Answer
open_map m bytes = settled graph_kind m (read_map bytes)

-- change by the bytes of a map file: it is refused as open refuses it, and else the machine's state is carried over to its map
abbrev pub change_map : Machine graph_kind → List ℕ → Machine graph_kind × Answer
change_map m bytes = settled graph_kind m (do next ← read_map bytes; accept (carry_over graph_kind m next))

-- a binding that stands alone: it is read with nothing after it, and then called
abbrev pub bind_alone : Machine graph_kind → List ℕ → Result (Machine graph_kind)
bind_alone m bs = do
  x ← at_end (read_binding bs)
  bind graph_kind x m

-- map or prefix by the bytes of one binding in the map file's layout
abbrev pub bind_map : Machine graph_kind → List ℕ → Machine graph_kind × Answer
bind_map m bytes = settled graph_kind m (bind_alone m bytes)

-- repeat with another count and mark. The count comes as its number, 0 for none and else count + 1: 1 if no count has the number
abbrev pub repeat_over : Machine graph_kind → (sequence count mark : ℕ) → Machine graph_kind × Answer
repeat_over m sequence count mark = settled graph_kind m (unless (leb count most_count) 1 (repeat_call graph_kind sequence (some (numbered count mark)) m))

-- ---- memory

-- the bytes of a scanner that is lent; `proofs/Size.antt` proves that they are the bytes of its type
abbrev pub scanner_bytes : ℕ
scanner_bytes = 187896
