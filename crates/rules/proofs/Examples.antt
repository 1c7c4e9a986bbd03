-- Small examples beside the table, each named after the rule that it shows, for what E1 to E10 do not reach. The answers
-- follow from document 01, from its changes by document 02 and from the Rust's code by hand; the theorems hold by computing them.
use Prim.Native.Nat.{ℕ, ◌*◌}
use mathlib.Core.Path.{◌≡◌, refl}
use mathlib.Core.Bool.{true, false}
use mathlib.Core.Option.{none, some}
use mathlib.Core.List.{List, [], ◌∷◌, ◌++◌, map}
use lib.ListN.{replicate}
use Rattle.rules.specs.Basics.{Result, accept, refuse, ◌>>=◌, open-Basics}
use Rattle.rules.specs.Values.{Event, Key, Class, Any, Fallthrough, Min, Step, default_step, Binding, Maps, Prefixes, no_context, pair, open-Values}
use Rattle.rules.specs.Tables.{ClassEntry, no_entry, Tables, no_tables, open-Tables}
use Rattle.rules.specs.Graph.{Edge, Follow, Successor, FallsTo, NoSuccessor, open-Graph}
use Rattle.rules.specs.OnePass.{better, open-OnePass}
use Rattle.rules.specs.KeyLoop.{open-KeyLoop}
use Rattle.rules.specs.Calls.{Call, Open, Map, Prefix, Pop, Repeats, Reset, Change, Accepted, Refused, Nothing, PressRefused, graph_kind, fresh, leaves, open-Calls}
use Rattle.rules.specs.Numbers.{number, open-Numbers}
use Rattle.rules.specs.MapFile.{read_map, open-MapFile}
use Rattle.rules.specs.Run.{count_number, most_count, numbered, pair_bytes, run, code_of, output_of, keyplay, open-Run}
use Rattle.rules.specs.Writing.{file_of, write_call, open-Writing}
use Rattle.rules.proofs.Table.{Tried, ◌⇒◌, part, once, one, two, three, does, key_within, key, rounds, gives, in_a_row, a, b, j, k, q, r, z, digits, tracking, doubles, Row, row, try_all, step_held, outcome}

-- ---- runs of calls

-- a half-typed j is still on the trail after a reset, so the next unmapped key first gives j's pair
abbrev pub reset_keeps_the_trail : Row
reset_keeps_the_trail = row (
    doubles
    ++ (key j ⇒ rounds 1
    ∷ Reset ⇒ Accepted
    ∷ key q ⇒ rounds 2
    ∷ Pop ⇒ gives 0 none 0
    ∷ Pop ⇒ gives 0 none 0
    ∷ Pop ⇒ Nothing
    ∷ []))

-- what a repeat merges into the pairs is still there at the next repeat
abbrev pub repeat_stores_the_merged_pairs : Row
repeat_stores_the_merged_pairs = row (
    Open tracking ⇒ Accepted
    ∷ key a ⇒ rounds 1
    ∷ Pop ⇒ gives 0 none 0
    ∷ Repeats 0 (some (record { count = 5; typed = true; mark = 9 })) ⇒ Accepted
    ∷ Pop ⇒ gives 0 (some 5) 9
    ∷ Repeats 0 (some (record { count = 0; typed = false; mark = 3 })) ⇒ Accepted
    ∷ Pop ⇒ gives 0 (some 5) 3
    ∷ Pop ⇒ Nothing
    ∷ [])

-- the tracked pair comes back once, not twice, and before what waits in the queue
abbrev pub repeated_pairs_are_not_tracked_again : Row
repeated_pairs_are_not_tracked_again = row (
    Open tracking ⇒ Accepted
    ∷ Map 0 (one Any) (does 1) ⇒ Accepted
    ∷ key a ⇒ rounds 1
    ∷ Repeats 0 (some (record { count = 5; typed = true; mark = 0 })) ⇒ Accepted
    ∷ Pop ⇒ gives 1 (some 5) 97
    ∷ Pop ⇒ gives 1 none 97
    ∷ Repeats 0 none ⇒ Accepted
    ∷ Pop ⇒ gives 1 (some 5) 97
    ∷ Pop ⇒ Nothing
    ∷ [])

abbrev pub flagged : ℕ → Step
flagged x = record { flag = true; actions = x ∷ []; next = none; fallthrough = none; mark = none }

-- a flagged step that is reached by fallthrough is run, and the key is tried again
abbrev pub the_flag_of_a_step_reached_by_fallthrough : Row
the_flag_of_a_step_reached_by_fallthrough = row (
    Map 0 (two (Key a) Fallthrough) (flagged 1) ⇒ Accepted
    ∷ key a ⇒ rounds 1
    ∷ key q ⇒ rounds 2
    ∷ Pop ⇒ gives 1 none 0
    ∷ Pop ⇒ gives 0 none 0
    ∷ Pop ⇒ Nothing
    ∷ [])

-- a flagged step that a key leads to is unmapped, unless its node has edges
abbrev pub the_flag_of_a_step_that_a_key_leads_to : Row
the_flag_of_a_step_that_a_key_leads_to = row (
    Map 0 (one (Key a)) (flagged 1) ⇒ Accepted
    ∷ key a ⇒ rounds 1
    ∷ Pop ⇒ gives 0 none 0
    ∷ Map 0 (two (Key a) (Key b)) (does 2) ⇒ Accepted
    ∷ key a ⇒ rounds 1
    ∷ Pop ⇒ Nothing
    ∷ key b ⇒ rounds 1
    ∷ Pop ⇒ gives 2 none 0
    ∷ Pop ⇒ Nothing
    ∷ [])

-- the Key edge, then the Class edge, whose hook counts
abbrev pub key_before_class : Row
key_before_class = row (
    Open digits ⇒ Accepted
    ∷ Map 0 (one (Class 0)) (does 1) ⇒ Accepted
    ∷ Map 0 (one (Key 52)) (does 2) ⇒ Accepted
    ∷ key 52 ⇒ rounds 1
    ∷ Pop ⇒ gives 2 none 0
    ∷ key 50 ⇒ rounds 1
    ∷ Pop ⇒ gives 1 (some 2) 0
    ∷ Pop ⇒ Nothing
    ∷ [])

-- classes 3 and 2, in this order, both hold every key
abbrev pub overlapping : Tables
overlapping = record {
  classes = record { class = 3; low = 0; high = 65535 } ∷ record { class = 2; low = 0; high = 65535 } ∷ [];
  modes = [];
  rules = [];
}

-- of two Class edges the first membership's is taken, and a Class edge before Any
abbrev pub first_membership : Row
first_membership = row (
    Open overlapping ⇒ Accepted
    ∷ Map 0 (one Any) (does 1) ⇒ Accepted
    ∷ Map 0 (one (Class 2)) (does 2) ⇒ Accepted
    ∷ key a ⇒ rounds 1
    ∷ Pop ⇒ gives 2 none 0
    ∷ Map 0 (one (Class 3)) (does 3) ⇒ Accepted
    ∷ key a ⇒ rounds 1
    ∷ Pop ⇒ gives 3 none 0
    ∷ [])

-- of 70000 the last digit is refused, and the count stays 7000. 65,536 is one too many, and 65,535 is counted: the digit that
-- passed it is as if it had not been pressed. Leading zeros change nothing, and a zero behind 65,535 is refused
abbrev pub the_count_overflows : Row
the_count_overflows = row (
    Open digits ⇒ Accepted
    ∷ Prefix 0 (one (Class 0)) none ⇒ Accepted
    ∷ Map 0 (one (Key r)) (does 7) ⇒ Accepted
    ∷ key 55 ⇒ rounds 1
    ∷ replicate 3 (key 48 ⇒ rounds 1)
    ++ (key 48 ⇒ PressRefused 12 1
    ∷ key r ⇒ rounds 1
    ∷ Pop ⇒ gives 7 (some 7000) 0
    ∷ replicate 9 (key 48 ⇒ rounds 1)
    ++ (in_a_row (54 ∷ 53 ∷ 53 ∷ 51 ∷ [])
    ++ (key 54 ⇒ PressRefused 12 1
    ∷ key 53 ⇒ rounds 1
    ∷ key 48 ⇒ PressRefused 12 1
    ∷ key r ⇒ rounds 1
    ∷ Pop ⇒ gives 7 (some 65535) 0
    ∷ Pop ⇒ Nothing
    ∷ []))))

-- with 65,535 counted, a digit that goes by its Key edge or by another class is no digit of the count
abbrev pub digits_that_do_not_count : Row
digits_that_do_not_count = row (
    Open (record { classes = record { class = 1; low = 50; high = 50 } ∷ record { class = 0; low = 48; high = 57 } ∷ []; modes = []; rules = [] }) ⇒ Accepted
    ∷ Prefix 0 (one (Class 0)) none ⇒ Accepted
    ∷ Prefix 0 (one (Class 1)) none ⇒ Accepted
    ∷ Prefix 0 (one (Key 52)) none ⇒ Accepted
    ∷ Map 0 (one (Key r)) (does 7) ⇒ Accepted
    ∷ in_a_row (54 ∷ 53 ∷ 53 ∷ 51 ∷ 53 ∷ 50 ∷ 52 ∷ [])
    ++ (key 48 ⇒ PressRefused 12 1
    ∷ key r ⇒ rounds 1
    ∷ Pop ⇒ gives 7 (some 65535) 0
    ∷ []))

-- 64 digits are on the trail and all may need more: a zero with a count of 65,535 is 12, and with one of 0 it is 7
abbrev pub an_overflow_before_a_full_trail : Row
an_overflow_before_a_full_trail = row (
    Open digits ⇒ Accepted
    ∷ Map 0 (part (Min 0) (Class 0) ∷ once (Key r) ∷ []) (does 7) ⇒ Accepted
    ∷ key 48 ⇒ rounds 2
    ∷ replicate 58 (key 48 ⇒ rounds 1)
    ++ (in_a_row (54 ∷ 53 ∷ 53 ∷ 51 ∷ 53 ∷ [])
    ++ (key 48 ⇒ PressRefused 12 1
    ∷ key r ⇒ rounds 1
    ∷ Pop ⇒ gives 7 (some 65535) 0
    ∷ key 48 ⇒ rounds 2
    ∷ replicate 63 (key 48 ⇒ rounds 1)
    ++ (key 48 ⇒ PressRefused 7 1
    ∷ []))))

-- 7000 counts, and the fifth digit would give 7. It is refused before the pair is given, and so is every other digit. With 256
-- pairs waiting it is 12 still, where r, which gives 8, is 5
abbrev pub an_overflow_gives_nothing : Row
an_overflow_gives_nothing = row (
    Open digits ⇒ Accepted
    ∷ Map 0 (once (Class 0) ∷ once (Class 0) ∷ once (Class 0) ∷ once (Class 0) ∷ once (Class 0) ∷ []) (does 7) ⇒ Accepted
    ∷ Map 0 (once (Class 0) ∷ once (Class 0) ∷ once (Class 0) ∷ once (Class 0) ∷ once (Key r) ∷ []) (does 8) ⇒ Accepted
    ∷ key 55 ⇒ rounds 1
    ∷ replicate 3 (key 48 ⇒ rounds 1)
    ++ (key 48 ⇒ PressRefused 12 1
    ∷ Pop ⇒ Nothing
    ∷ key 57 ⇒ PressRefused 12 1
    ∷ Pop ⇒ Nothing
    ∷ key r ⇒ rounds 1
    ∷ Pop ⇒ gives 8 (some 7000) 0
    ∷ Pop ⇒ Nothing
    ∷ replicate 256 (key q ⇒ rounds 1)
    ++ (key 55 ⇒ rounds 1
    ∷ replicate 3 (key 48 ⇒ rounds 1)
    ++ (key 48 ⇒ PressRefused 12 1
    ∷ key r ⇒ PressRefused 5 1
    ∷ []))))

-- 64 pairs are remembered, and the fifth digit would give a 65th: behind 7000 a zero is 12, where q, which gives one too, is 6
abbrev pub an_overflow_before_a_full_sequence : Row
an_overflow_before_a_full_sequence = row (
    Open (record { classes = digits.classes; modes = []; rules = tracking.rules }) ⇒ Accepted
    ∷ Map 0 (once (Class 0) ∷ once (Class 0) ∷ once (Class 0) ∷ once (Class 0) ∷ once (Class 0) ∷ []) (does 7) ⇒ Accepted
    ∷ replicate 64 (key q ⇒ rounds 1)
    ++ (key 55 ⇒ rounds 1
    ∷ replicate 3 (key 48 ⇒ rounds 1)
    ++ (key 48 ⇒ PressRefused 12 1
    ∷ key q ⇒ PressRefused 6 1
    ∷ [])))

-- The digits after q go by Key edges until z gives q up: then 7, 0, 0, 0 and 0 are tried again and counted, and the last is 12,
-- in round 6. With a budget of 5 it is 8. Refused, the key has given no pair for q, the trail is as it was, and nothing counts
abbrev pub an_overflow_of_keys_tried_again : Row
an_overflow_of_keys_tried_again = row (
    Open digits ⇒ Accepted
    ∷ Prefix 0 (one (Class 0)) none ⇒ Accepted
    ∷ Map 0 (once (Key q) ∷ once (Key 55) ∷ once (Key 48) ∷ once (Key 48) ∷ once (Key 48) ∷ once (Key 48) ∷ once (Key r) ∷ []) (does 7) ⇒ Accepted
    ∷ key q ⇒ rounds 1
    ∷ key 55 ⇒ rounds 1
    ∷ replicate 4 (key 48 ⇒ rounds 1)
    ++ (key z ⇒ PressRefused 12 6
    ∷ key_within 5 z ⇒ PressRefused 8 5
    ∷ Pop ⇒ Nothing
    ∷ key r ⇒ rounds 1
    ∷ Pop ⇒ gives 7 none 0
    ∷ Pop ⇒ Nothing
    ∷ []))

-- both actions of a step carry the context of one take; its own mark comes before the key's
abbrev pub one_take_for_all_actions : Row
one_take_for_all_actions = row (
    Map 0 (one Any) (record { flag = false; actions = 1 ∷ 2 ∷ []; next = none; fallthrough = none; mark = none }) ⇒ Accepted
    ∷ Map 0 (one (Key b)) (record { flag = false; actions = 3 ∷ []; next = none; fallthrough = none; mark = some 9 }) ⇒ Accepted
    ∷ key a ⇒ rounds 1
    ∷ Pop ⇒ gives 1 none 97
    ∷ Pop ⇒ gives 2 none 97
    ∷ key b ⇒ rounds 1
    ∷ Pop ⇒ gives 3 none 9
    ∷ Pop ⇒ Nothing
    ∷ [])

-- mode 1 is entered with action 5, and every action given in mode 1 is tracked in sequence 0
abbrev pub entering : Tables
entering = record {
  classes = [];
  modes = no_entry ∷ record { enter = 5 ∷ []; unmapped = []; next = none } ∷ [];
  rules = record { mode = 1; low = 0; high = 65535; sequence = 0; status = 4 } ∷ [];
}

-- the step's action is given in mode 0, and the enter list in mode 1, whose rules track it
abbrev pub the_rules_of_the_entered_mode : Row
the_rules_of_the_entered_mode = row (
    Open entering ⇒ Accepted
    ∷ Map 0 (one (Key a)) (record { flag = false; actions = 1 ∷ []; next = some 1; fallthrough = none; mark = none }) ⇒ Accepted
    ∷ key a ⇒ rounds 1
    ∷ Pop ⇒ gives 1 none 0
    ∷ Pop ⇒ gives 5 none 0
    ∷ Repeats 0 none ⇒ Accepted
    ∷ Pop ⇒ gives 5 none 0
    ∷ Pop ⇒ Nothing
    ∷ [])

-- an unmapped key gives 10 in mode 0 and 11 in mode 1
abbrev pub lists : Tables
lists = record {
  classes = [];
  modes = record { enter = []; unmapped = 10 ∷ []; next = none } ∷ record { enter = []; unmapped = 11 ∷ []; next = none } ∷ [];
  rules = [];
}

-- a step with nothing to give, whose node falls to mode 1: the unmapped list is mode 1's, but mode 0 stays entered
abbrev pub the_unmapped_list_of_the_nodes_mode : Row
the_unmapped_list_of_the_nodes_mode = row (
    Open lists ⇒ Accepted
    ∷ Map 0 (one (Key a)) (record { flag = false; actions = []; next = none; fallthrough = some 1; mark = none }) ⇒ Accepted
    ∷ key a ⇒ rounds 1
    ∷ key q ⇒ rounds 2
    ∷ Pop ⇒ gives 11 none 0
    ∷ key q ⇒ rounds 1
    ∷ Pop ⇒ gives 10 none 0
    ∷ Pop ⇒ Nothing
    ∷ [])

-- 64 keys need more, and one more is 7
abbrev pub a_trail_of_64 : Row
a_trail_of_64 = row (
    Map 0 (part (Min 0) (Key a) ∷ once (Key b) ∷ []) (does 1) ⇒ Accepted
    ∷ key a ⇒ rounds 2
    ∷ replicate 63 (key a ⇒ rounds 1)
    ++ (key a ⇒ PressRefused 7 1
    ∷ key b ⇒ rounds 1
    ∷ Pop ⇒ gives 1 none 0
    ∷ []))

-- prefix ab: b is consumed, so a is no longer on the trail and q takes one round
abbrev pub a_consumed_key_clears_the_trail : Row
a_consumed_key_clears_the_trail = row (
    Prefix 0 (two (Key a) (Key b)) none ⇒ Accepted
    ∷ key a ⇒ rounds 1
    ∷ key b ⇒ rounds 1
    ∷ Pop ⇒ Nothing
    ∷ key q ⇒ rounds 1
    ∷ Pop ⇒ gives 0 none 0
    ∷ Pop ⇒ Nothing
    ∷ [])

-- mapping ab: b runs the step, and again q takes one round
abbrev pub a_run_step_clears_the_trail : Row
a_run_step_clears_the_trail = row (
    Map 0 (two (Key a) (Key b)) (does 1) ⇒ Accepted
    ∷ key a ⇒ rounds 1
    ∷ key b ⇒ rounds 1
    ∷ Pop ⇒ gives 1 none 0
    ∷ key q ⇒ rounds 1
    ∷ Pop ⇒ gives 0 none 0
    ∷ Pop ⇒ Nothing
    ∷ [])

-- an empty path is accepted after the range checks, and changes nothing
abbrev pub an_empty_path : Row
an_empty_path = row (
    Map 0 [] (does 1) ⇒ Accepted
    ∷ Map 16 [] (does 1) ⇒ Refused 1
    ∷ key a ⇒ rounds 1
    ∷ Pop ⇒ gives 0 none 0
    ∷ [])

-- 1,024 calls are kept: those with an empty path, and none that was refused. One more is 11, whatever it would bind, and changes
-- nothing: a gives 1 still, and b is unmapped. 1 and 4 are met before 11. Open begins anew
abbrev pub the_calls_that_are_kept : Row
the_calls_that_are_kept = row (
    Map 0 (one (Key a)) (record { flag = false; actions = 1 ∷ []; next = none; fallthrough = some 1; mark = none }) ⇒ Accepted
    ∷ Map 16 [] (does 1) ⇒ Refused 1
    ∷ Prefix 16 [] none ⇒ Refused 1
    ∷ Map 0 (two (Key a) Fallthrough) (does 1) ⇒ Refused 4
    ∷ Prefix 0 [] none ⇒ Accepted
    ∷ replicate 1022 (Map 0 [] (does 1) ⇒ Accepted)
    ++ (Map 0 [] (does 1) ⇒ Refused 11
    ∷ Prefix 0 [] none ⇒ Refused 11
    ∷ Map 0 (one (Key a)) (does 2) ⇒ Refused 11
    ∷ Map 0 (one (Key b)) (does 3) ⇒ Refused 11
    ∷ Map 16 [] (does 1) ⇒ Refused 1
    ∷ Prefix 16 [] none ⇒ Refused 1
    ∷ Map 0 (two (Key a) Fallthrough) (does 1) ⇒ Refused 4
    ∷ key a ⇒ rounds 1
    ∷ Pop ⇒ gives 1 none 0
    ∷ key b ⇒ rounds 1
    ∷ Pop ⇒ gives 0 none 0
    ∷ Open digits ⇒ Accepted
    ∷ Map 0 [] (does 1) ⇒ Accepted
    ∷ []))

-- ---- a change of map (document 02, request (vi))

-- a step that gives action 0 and enters the mode, and one that gives nothing and from whose node keys fall to the mode
abbrev pub enters : ℕ → Step
enters m = record { flag = false; actions = []; next = some m; fallthrough = none; mark = none }

abbrev pub falls_to : ℕ → Step
falls_to m = record { flag = false; actions = []; next = none; fallthrough = some m; mark = none }

-- j needs more in the old map and in the new one, whose jj the next j completes. The pair of q still waits, in front
abbrev pub a_change_walks_the_trail : Row
a_change_walks_the_trail = row (
    doubles
    ++ (key q ⇒ rounds 1
    ∷ key j ⇒ rounds 1
    ∷ Change no_tables (Maps 0 (two (Key j) (Key j)) (does 3) ∷ []) ⇒ Accepted
    ∷ key j ⇒ rounds 1
    ∷ Pop ⇒ gives 0 none 0
    ∷ Pop ⇒ gives 3 none 0
    ∷ Pop ⇒ Nothing
    ∷ []))

-- `doubles` as bindings
abbrev pub the_same_map : List Binding
the_same_map = Maps 0 (two (Key j) (Key j)) (does 1) ∷ Maps 0 (two (Key k) (Key k)) (does 2) ∷ []

-- A reset goes to the root and keeps j on the trail. A change to the same map takes the place behind it, so j completes jj
abbrev pub a_change_after_a_reset : Row
a_change_after_a_reset = row (
    doubles
    ++ (key j ⇒ rounds 1
    ∷ Reset ⇒ Accepted
    ∷ Change no_tables the_same_map ⇒ Accepted
    ∷ key j ⇒ rounds 1
    ∷ Pop ⇒ gives 1 none 0
    ∷ Pop ⇒ Nothing
    ∷ []))

-- The j before the reset and the one after it are both on the trail. On the walk the second would run the step, so both are lost,
-- and jj takes two more
abbrev pub a_trail_of_two_runs : Row
a_trail_of_two_runs = row (
    doubles
    ++ (key j ⇒ rounds 1
    ∷ Reset ⇒ Accepted
    ∷ key j ⇒ rounds 1
    ∷ Change no_tables the_same_map ⇒ Accepted
    ∷ key j ⇒ rounds 1
    ∷ Pop ⇒ Nothing
    ∷ key j ⇒ rounds 1
    ∷ Pop ⇒ gives 1 none 0
    ∷ Pop ⇒ Nothing
    ∷ []))

-- a falls from the root and then needs more. On the walk of the same map it falls, and is lost: b, too, falls from the root again
abbrev pub a_key_that_had_fallen : Row
a_key_that_had_fallen = row (
    Map 0 (part (Min 0) (Key a) ∷ once (Key b) ∷ []) (does 1) ⇒ Accepted
    ∷ key a ⇒ rounds 2
    ∷ Change no_tables (Maps 0 (part (Min 0) (Key a) ∷ once (Key b) ∷ []) (does 1) ∷ []) ⇒ Accepted
    ∷ key b ⇒ rounds 2
    ∷ Pop ⇒ gives 1 none 0
    ∷ Pop ⇒ Nothing
    ∷ [])

-- a and b are on the trail, and the map is changed
abbrev pub half_typed_then : List Binding → List Tried → Row
half_typed_then xs ts = row (
    Map 0 (three (Key a) (Key b) (Key j)) (does 1) ⇒ Accepted
    ∷ key a ⇒ rounds 1
    ∷ key b ⇒ rounds 1
    ∷ Change no_tables xs ⇒ Accepted
    ∷ ts)

-- the trail is kept: at z a is given up, and b is tried again in the new map
abbrev pub b_needs_more : Row
b_needs_more = half_typed_then (Maps 0 (three (Key a) (Key b) (Key q)) (does 2) ∷ Maps 0 (one (Key b)) (does 3) ∷ []) (
    key z ⇒ rounds 3
    ∷ Pop ⇒ gives 0 none 0
    ∷ Pop ⇒ gives 3 none 0
    ∷ Pop ⇒ gives 0 none 0
    ∷ Pop ⇒ Nothing
    ∷ [])

-- a flagged step with an edge needs more, as in a round
abbrev pub b_comes_to_a_flag_with_edges : Row
b_comes_to_a_flag_with_edges = half_typed_then (Maps 0 (two (Key a) (Key b)) (flagged 2) ∷ Maps 0 (three (Key a) (Key b) (Key j)) (does 3) ∷ []) (
    key j ⇒ rounds 1
    ∷ Pop ⇒ gives 3 none 0
    ∷ Pop ⇒ Nothing
    ∷ [])

-- the place is the root, with no key on the trail: a needs more there, and at q it alone is given up
abbrev pub all_is_lost : List Tried
all_is_lost = key a ⇒ rounds 1 ∷ key q ⇒ rounds 2 ∷ Pop ⇒ gives 0 none 0 ∷ Pop ⇒ gives 0 none 0 ∷ Pop ⇒ Nothing ∷ []

-- all is lost where b would run a step, is consumed, has no edge, or comes to a flagged step without edges
abbrev pub b_would_run_a_step : Row
b_would_run_a_step = half_typed_then (Maps 0 (two (Key a) (Key b)) (does 2) ∷ []) all_is_lost

abbrev pub b_is_consumed : Row
b_is_consumed = half_typed_then (Prefixes 0 (two (Key a) (Key b)) none ∷ []) all_is_lost

abbrev pub b_has_no_edge : Row
b_has_no_edge = half_typed_then (Maps 0 (two (Key a) (Key z)) (does 2) ∷ []) all_is_lost

abbrev pub b_comes_to_a_flag : Row
b_comes_to_a_flag = half_typed_then (Maps 0 (two (Key a) (Key b)) (flagged 2) ∷ []) all_is_lost

-- Likewise where b falls, as to a step. At the root q is unmapped at once; behind a it falls there too
abbrev pub b_falls_to_a_step : Row
b_falls_to_a_step = half_typed_then (Maps 0 (two (Key a) Fallthrough) (does 2) ∷ []) (
    key q ⇒ rounds 1
    ∷ Pop ⇒ gives 0 none 0
    ∷ key a ⇒ rounds 1
    ∷ key q ⇒ rounds 2
    ∷ Pop ⇒ gives 2 none 0
    ∷ Pop ⇒ gives 0 none 0
    ∷ Pop ⇒ Nothing
    ∷ [])

-- the place is the root, where j has no edge
abbrev pub j_is_unmapped : List Tried
j_is_unmapped = key j ⇒ rounds 1 ∷ Pop ⇒ gives 0 none 0 ∷ Pop ⇒ Nothing ∷ []

-- so it is where b falls to an empty node or to a root, from which it would need more: j gives no 2
abbrev pub b_falls_to_a_node : Row
b_falls_to_a_node = half_typed_then (Maps 0 (once (Key a) ∷ once Fallthrough ∷ once (Key b) ∷ once (Key j) ∷ []) (does 2) ∷ []) j_is_unmapped

abbrev pub b_falls_to_a_root : Row
b_falls_to_a_root = half_typed_then (
    Maps 0 (one (Key a)) (record { flag = true; actions = []; next = none; fallthrough = some 1; mark = none })
    ∷ Maps 1 (two (Key b) (Key j)) (does 2)
    ∷ []) j_is_unmapped

-- z enters mode 1. The trail is walked from the root of mode 1, and that root is the place where j is lost
abbrev pub a_change_in_mode_1 : Row
a_change_in_mode_1 = row (
    Map 0 (one (Key z)) (enters 1) ⇒ Accepted
    ∷ Map 1 (two (Key j) (Key b)) (does 5) ⇒ Accepted
    ∷ key z ⇒ rounds 1
    ∷ Pop ⇒ gives 0 none 0
    ∷ key j ⇒ rounds 1
    ∷ Change no_tables (Maps 0 (two (Key j) (Key b)) (does 4) ∷ Maps 1 (two (Key j) (Key b)) (does 6) ∷ []) ⇒ Accepted
    ∷ key b ⇒ rounds 1
    ∷ Pop ⇒ gives 6 none 0
    ∷ key j ⇒ rounds 1
    ∷ Change no_tables (Maps 0 (one (Key b)) (does 7) ∷ Maps 1 (one (Key b)) (does 8) ∷ []) ⇒ Accepted
    ∷ key b ⇒ rounds 1
    ∷ Pop ⇒ gives 8 none 0
    ∷ Pop ⇒ Nothing
    ∷ [])

-- From a's node b falls to mode 1 and needs more there. Mode 0 is entered still, so b is walked there, and j gives 6 and not 5
abbrev pub a_change_after_a_fallthrough : Row
a_change_after_a_fallthrough =
    let xs = Maps 0 (one (Key a)) (falls_to 1) ∷ Maps 0 (two (Key b) (Key j)) (does 6) ∷ Maps 1 (two (Key b) (Key j)) (does 5) ∷ [] in
    row (
    Change no_tables xs ⇒ Accepted
    ∷ key a ⇒ rounds 1
    ∷ key b ⇒ rounds 2
    ∷ Change no_tables xs ⇒ Accepted
    ∷ key j ⇒ rounds 1
    ∷ Pop ⇒ gives 6 none 0
    ∷ Pop ⇒ Nothing
    ∷ [])

-- A step without action leaves the place behind a, and no trail. A change to the same map goes to the root, where b is unmapped
abbrev pub a_change_without_a_trail : Row
a_change_without_a_trail =
    let xs = Maps 0 (one (Key a)) default_step ∷ Maps 0 (two (Key a) (Key b)) (does 5) ∷ [] in
    row (
    Change no_tables xs ⇒ Accepted
    ∷ key a ⇒ rounds 1
    ∷ Change no_tables xs ⇒ Accepted
    ∷ key b ⇒ rounds 1
    ∷ Pop ⇒ gives 0 none 0
    ∷ key a ⇒ rounds 1
    ∷ key b ⇒ rounds 1
    ∷ Pop ⇒ gives 5 none 0
    ∷ Pop ⇒ Nothing
    ∷ [])

-- 5 counts and is consumed; of the trail j 4 q, 4 counts and q is the mark. By the new map's hooks 4 would count again and j would
-- be the mark
abbrev pub the_walk_runs_no_hook : Row
the_walk_runs_no_hook = row (
    Open digits ⇒ Accepted
    ∷ Prefix 0 (one (Class 0)) none ⇒ Accepted
    ∷ Map 0 (once (Key j) ∷ once (Class 0) ∷ once Any ∷ once (Key b) ∷ []) (does 1) ⇒ Accepted
    ∷ in_a_row (53 ∷ j ∷ 52 ∷ q ∷ [])
    ++ (Change digits (Maps 0 (once Any ∷ once (Class 0) ∷ once (Key q) ∷ once (Key b) ∷ []) (does 2) ∷ []) ⇒ Accepted
    ∷ key b ⇒ rounds 1
    ∷ Pop ⇒ gives 2 (some 54) 113
    ∷ Pop ⇒ Nothing
    ∷ []))

-- with 65,535 counted, 5 goes by its Key edge onto the trail; on the walk it goes by class 0, and is no 12
abbrev pub no_overflow_on_the_walk : Row
no_overflow_on_the_walk = row (
    Open digits ⇒ Accepted
    ∷ Prefix 0 (one (Class 0)) none ⇒ Accepted
    ∷ Map 0 (three (Key j) (Key 53) (Key b)) (does 1) ⇒ Accepted
    ∷ in_a_row (54 ∷ 53 ∷ 53 ∷ 51 ∷ 53 ∷ j ∷ 53 ∷ [])
    ++ (Change digits (Maps 0 (three (Key j) (Class 0) (Key b)) (does 2) ∷ []) ⇒ Accepted
    ∷ key b ⇒ rounds 1
    ∷ Pop ⇒ gives 2 (some 65535) 0
    ∷ Pop ⇒ Nothing
    ∷ []))

-- 4 has no edge in the new map, so the trail is lost, and its count is not
abbrev pub a_lost_digit_counts : Row
a_lost_digit_counts = row (
    Open digits ⇒ Accepted
    ∷ Map 0 (two (Class 0) (Key j)) (does 1) ⇒ Accepted
    ∷ key 52 ⇒ rounds 1
    ∷ Change digits (Maps 0 (one (Key r)) (does 7) ∷ []) ⇒ Accepted
    ∷ key r ⇒ rounds 1
    ∷ Pop ⇒ gives 7 (some 4) 0
    ∷ Pop ⇒ Nothing
    ∷ [])

-- 32,866 needs more as it stands, and is walked so. It is not walked as 27 and b, which an unmapped key of that number becomes
abbrev pub a_walk_decomposes_no_key : Row
a_walk_decomposes_no_key = row (
    Map 0 (two (Key 32866) (Key j)) (does 1) ⇒ Accepted
    ∷ key 32866 ⇒ rounds 1
    ∷ Change no_tables (Maps 0 (two (Key 32866) (Key j)) (does 2) ∷ []) ⇒ Accepted
    ∷ key j ⇒ rounds 1
    ∷ Pop ⇒ gives 2 none 0
    ∷ key 32866 ⇒ rounds 1
    ∷ Change no_tables (Maps 0 (three (Key 27) (Key b) (Key j)) (does 3) ∷ []) ⇒ Accepted
    ∷ key j ⇒ rounds 1
    ∷ Pop ⇒ gives 0 none 0
    ∷ Pop ⇒ Nothing
    ∷ [])

-- class c holds the key a alone
abbrev pub a_in_class : ℕ → Tables
a_in_class c = record { classes = record { class = c; low = a; high = a } ∷ []; modes = []; rules = [] }

-- the new map has a path by either class, and in its tables a is in class 2
abbrev pub the_classes_of_the_new_tables : Row
the_classes_of_the_new_tables = row (
    Open (a_in_class 1) ⇒ Accepted
    ∷ Map 0 (two (Class 1) (Key j)) (does 1) ⇒ Accepted
    ∷ key a ⇒ rounds 1
    ∷ Change (a_in_class 2) (Maps 0 (two (Class 1) (Key j)) (does 3) ∷ Maps 0 (two (Class 2) (Key j)) (does 2) ∷ []) ⇒ Accepted
    ∷ key j ⇒ rounds 1
    ∷ Pop ⇒ gives 2 none 0
    ∷ Pop ⇒ Nothing
    ∷ [])

-- The change gives nothing, though mode 0 has an enter list now. The next q gives the new unmapped list, and then enters mode 0
abbrev pub the_lists_of_the_new_tables : Row
the_lists_of_the_new_tables = row (
    Open lists ⇒ Accepted
    ∷ key q ⇒ rounds 1
    ∷ Change (record { classes = []; modes = record { enter = 8 ∷ []; unmapped = 9 ∷ []; next = none } ∷ []; rules = [] }) [] ⇒ Accepted
    ∷ Pop ⇒ gives 10 none 0
    ∷ Pop ⇒ Nothing
    ∷ key q ⇒ rounds 1
    ∷ Pop ⇒ gives 9 none 0
    ∷ Pop ⇒ gives 8 none 0
    ∷ Pop ⇒ Nothing
    ∷ [])

-- 1 is remembered in sequence 0, and it still is in a map whose rules name no sequence, though j is lost there; 2 is not. It is
-- being tracked still: where the rules track again, 3 stands behind it
abbrev pub the_sequences_pass_over : Row
the_sequences_pass_over = row (
    Open tracking ⇒ Accepted
    ∷ Map 0 (one (Key a)) (does 1) ⇒ Accepted
    ∷ Map 0 (two (Key j) (Key j)) (does 9) ⇒ Accepted
    ∷ key a ⇒ rounds 1
    ∷ key j ⇒ rounds 1
    ∷ Change no_tables (Maps 0 (one (Key a)) (does 2) ∷ []) ⇒ Accepted
    ∷ key a ⇒ rounds 1
    ∷ Pop ⇒ gives 1 none 0
    ∷ Pop ⇒ gives 2 none 0
    ∷ Repeats 0 none ⇒ Accepted
    ∷ Pop ⇒ gives 1 none 0
    ∷ Pop ⇒ Nothing
    ∷ Change tracking (Maps 0 (one (Key a)) (does 3) ∷ []) ⇒ Accepted
    ∷ key a ⇒ rounds 1
    ∷ Repeats 0 none ⇒ Accepted
    ∷ Pop ⇒ gives 1 none 0
    ∷ Pop ⇒ gives 3 none 0
    ∷ Pop ⇒ gives 3 none 0
    ∷ Pop ⇒ Nothing
    ∷ [])

-- in the old map the root itself holds a step (E7); in the new one it does not, so a is consumed
abbrev pub the_roots_of_the_new_map : Row
the_roots_of_the_new_map = row (
    Prefix 0 (one (Key a)) none ⇒ Accepted
    ∷ Map 0 (one (Key a)) (does 1) ⇒ Accepted
    ∷ Change no_tables (Prefixes 0 (one (Key a)) none ∷ []) ⇒ Accepted
    ∷ key a ⇒ rounds 1
    ∷ Pop ⇒ Nothing
    ∷ [])

-- the bindings of E8, of which the second is 4; and one that is 1
abbrev pub four : List Binding
four =
    Maps 0 (one (Key a)) (record { flag = false; actions = 1 ∷ []; next = none; fallthrough = some 1; mark = none })
    ∷ Maps 0 (two (Key a) Fallthrough) (does 2)
    ∷ []

abbrev pub mode_16 : Binding
mode_16 = Prefixes 16 [] none

-- Class 256 is 1 before any binding is met, and of the bindings the first that is refused counts. The old map goes on: j is half of
-- its jj, which gives 1, and an unmapped key gives 10 by its tables
abbrev pub a_refused_change : Row
a_refused_change = row (
    Open lists ⇒ Accepted
    ∷ Map 0 (two (Key j) (Key j)) (does 1) ⇒ Accepted
    ∷ key q ⇒ rounds 1
    ∷ key j ⇒ rounds 1
    ∷ Change (a_in_class 256) four ⇒ Refused 1
    ∷ Change digits (Maps 0 (two (Key j) (Key j)) (does 3) ∷ four ++ (mode_16 ∷ [])) ⇒ Refused 4
    ∷ Change digits (Maps 0 (two (Key j) (Key j)) (does 3) ∷ mode_16 ∷ four) ⇒ Refused 1
    ∷ key j ⇒ rounds 1
    ∷ key q ⇒ rounds 1
    ∷ Pop ⇒ gives 10 none 0
    ∷ Pop ⇒ gives 1 none 0
    ∷ Pop ⇒ gives 10 none 0
    ∷ Pop ⇒ Nothing
    ∷ [])

-- ---- a count that was typed (document 02, request (vii))

-- A typed 0 counts. Both actions of the step that takes it carry it, and at the next r neither does
abbrev pub zero_pieces_found : Row
zero_pieces_found = row (
    Open digits ⇒ Accepted
    ∷ Prefix 0 (one (Class 0)) none ⇒ Accepted
    ∷ Map 0 (one (Key r)) (record { flag = false; actions = 7 ∷ 8 ∷ []; next = none; fallthrough = none; mark = none }) ⇒ Accepted
    ∷ in_a_row (48 ∷ r ∷ r ∷ [])
    ++ (Pop ⇒ gives 7 (some 0) 0
    ∷ Pop ⇒ gives 8 (some 0) 0
    ∷ Pop ⇒ gives 7 none 0
    ∷ Pop ⇒ gives 8 none 0
    ∷ Pop ⇒ Nothing
    ∷ []))

-- A typed 0 passes over to a map that enters mode 0 with action 5. A reset takes it, so 5 carries it, and the unmapped q finds none
abbrev pub a_typed_0_until_a_reset : Row
a_typed_0_until_a_reset = row (
    Open digits ⇒ Accepted
    ∷ Prefix 0 (one (Class 0)) none ⇒ Accepted
    ∷ key 48 ⇒ rounds 1
    ∷ Change (record { classes = []; modes = record { enter = 5 ∷ []; unmapped = []; next = none } ∷ []; rules = [] }) [] ⇒ Accepted
    ∷ Reset ⇒ Accepted
    ∷ key q ⇒ rounds 1
    ∷ Pop ⇒ gives 5 (some 0) 0
    ∷ Pop ⇒ gives 0 none 0
    ∷ Pop ⇒ gives 5 none 0
    ∷ Pop ⇒ Nothing
    ∷ [])

-- A pair with 42 and one with no count are remembered. A default context overrides nothing, and of an untyped 9 with mark 2 the mark
-- alone is used. A typed 0 overrides both, and is stored
abbrev pub a_count_overrides_if_it_was_typed : Row
a_count_overrides_if_it_was_typed = row (
    Open (record { classes = digits.classes; modes = []; rules = tracking.rules }) ⇒ Accepted
    ∷ Prefix 0 (one (Class 0)) none ⇒ Accepted
    ∷ in_a_row (52 ∷ 50 ∷ q ∷ q ∷ [])
    ++ (Repeats 0 (some no_context) ⇒ Accepted
    ∷ Pop ⇒ gives 0 (some 42) 0
    ∷ Pop ⇒ gives 0 none 0
    ∷ Repeats 0 (some (record { count = 9; typed = false; mark = 2 })) ⇒ Accepted
    ∷ Pop ⇒ gives 0 (some 42) 2
    ∷ Pop ⇒ gives 0 none 2
    ∷ Repeats 0 (some (record { count = 0; typed = true; mark = 0 })) ⇒ Accepted
    ∷ Pop ⇒ gives 0 (some 0) 2
    ∷ Pop ⇒ gives 0 (some 0) 2
    ∷ Repeats 0 none ⇒ Accepted
    ∷ Pop ⇒ gives 0 (some 0) 2
    ∷ Pop ⇒ gives 0 (some 0) 2
    ∷ []))

unfoldable pub examples : List Row
examples =
    reset_keeps_the_trail
    ∷ repeat_stores_the_merged_pairs
    ∷ repeated_pairs_are_not_tracked_again
    ∷ the_flag_of_a_step_reached_by_fallthrough
    ∷ the_flag_of_a_step_that_a_key_leads_to
    ∷ key_before_class
    ∷ first_membership
    ∷ the_count_overflows
    ∷ digits_that_do_not_count
    ∷ an_overflow_before_a_full_trail
    ∷ an_overflow_gives_nothing
    ∷ an_overflow_before_a_full_sequence
    ∷ an_overflow_of_keys_tried_again
    ∷ one_take_for_all_actions
    ∷ the_rules_of_the_entered_mode
    ∷ the_unmapped_list_of_the_nodes_mode
    ∷ a_trail_of_64
    ∷ a_consumed_key_clears_the_trail
    ∷ a_run_step_clears_the_trail
    ∷ an_empty_path
    ∷ the_calls_that_are_kept
    ∷ a_change_walks_the_trail
    ∷ a_change_after_a_reset
    ∷ a_trail_of_two_runs
    ∷ a_key_that_had_fallen
    ∷ b_needs_more
    ∷ b_comes_to_a_flag_with_edges
    ∷ b_would_run_a_step
    ∷ b_is_consumed
    ∷ b_has_no_edge
    ∷ b_comes_to_a_flag
    ∷ b_falls_to_a_step
    ∷ b_falls_to_a_node
    ∷ b_falls_to_a_root
    ∷ a_change_in_mode_1
    ∷ a_change_after_a_fallthrough
    ∷ a_change_without_a_trail
    ∷ the_walk_runs_no_hook
    ∷ no_overflow_on_the_walk
    ∷ a_lost_digit_counts
    ∷ a_walk_decomposes_no_key
    ∷ the_classes_of_the_new_tables
    ∷ the_lists_of_the_new_tables
    ∷ the_sequences_pass_over
    ∷ the_roots_of_the_new_map
    ∷ a_refused_change
    ∷ zero_pieces_found
    ∷ a_typed_0_until_a_reset
    ∷ a_count_overrides_if_it_was_typed
    ∷ []

pub examples_hold : map outcome examples ≡ examples
unfolding open-Basics open-Values open-Tables open-Graph open-KeyLoop open-Calls try_all step_held outcome examples
examples_hold = refl

-- ---- numbers, map files and runs

-- the refusal, or 0
abbrev pub refusal_of : {A : Type 0} → Result A → ℕ
refusal_of (accept x) = 0
refusal_of (refuse n) = n

-- bytes, and the refusal that they meet
pub record Bytes : Type 0 where
  pub bytes : List ℕ
  pub met : ℕ

infix 70 ◌meets◌
abbrev pub ◌meets◌ : List ℕ → ℕ → Bytes
◌meets◌ bs n = record { bytes = bs; met = n }

-- a number: the largest, one over it, a longer form of 0, one of 127, an early end
abbrev pub numbers : List Bytes
numbers =
    (0xFF ∷ 0xFF ∷ 0x03 ∷ []) meets 0
    ∷ (0x80 ∷ 0x80 ∷ 0x04 ∷ []) meets 9
    ∷ (0x80 ∷ 0x00 ∷ []) meets 9
    ∷ (0xFF ∷ 0x80 ∷ 0x00 ∷ []) meets 9
    ∷ (0xFF ∷ []) meets 9
    ∷ []

-- a map file: the empty map; a byte left over; a class count of 17, though the file ends there; low above high, likewise;
-- a prefix in mode 0, and one in mode 16, met before its path; a map call refused with 4, as in E8, before a byte left over
abbrev pub files : List Bytes
files =
    (0 ∷ 0 ∷ 0 ∷ 0 ∷ []) meets 0
    ∷ (0 ∷ 0 ∷ 0 ∷ 0 ∷ 0 ∷ []) meets 9
    ∷ (17 ∷ []) meets 1
    ∷ (1 ∷ 0 ∷ 5 ∷ 4 ∷ []) meets 1
    ∷ (0 ∷ 0 ∷ 0 ∷ 1 ∷ 1 ∷ 0 ∷ 1 ∷ 0 ∷ 2 ∷ []) meets 0
    ∷ (0 ∷ 0 ∷ 0 ∷ 1 ∷ 1 ∷ 16 ∷ []) meets 1
    ∷ (0 ∷ 0 ∷ 0 ∷ 2 ∷ 0 ∷ 0 ∷ 1 ∷ 0 ∷ 0 ∷ 97 ∷ 0 ∷ 0 ∷ 0 ∷ 2 ∷ 0 ∷ 0 ∷ 0 ∷ 2 ∷ 0 ∷ 0 ∷ 97 ∷ 0 ∷ 3 ∷ 0 ∷ 0 ∷ 0 ∷ 0 ∷ 0 ∷ 9 ∷ []) meets 4
    ∷ []

-- Keys on the empty map. One pair takes 3 bytes, so of 5 bytes lent the second pair is 10, met before the third key, which
-- decomposes and is 8 with a budget of 1. A number that ends early is met before the first key is tried. A typed 0 is written as 1,
-- 127 takes two bytes and 65,535 three; and a number stands for the count that is written so
abbrev pub empty_map : List ℕ
empty_map = 0 ∷ 0 ∷ 0 ∷ 0 ∷ []

abbrev pub lent : List ℕ
lent = 1 ∷ 2 ∷ 3 ∷ 4 ∷ 5 ∷ []

pub files_hold : (map (λ x. refusal_of (number x.bytes)) numbers ≡ map (λ x. x.met) numbers)
    × (map (λ x. refusal_of (read_map x.bytes)) files ≡ map (λ x. x.met) files)
    × (run empty_map (97 ∷ []) 1 5 ≡ accept (pair 0 0 false 0 ∷ []))
    × (run empty_map (97 ∷ []) 0 5 ≡ refuse 8)
    × (run empty_map (97 ∷ 97 ∷ 0x80 ∷ []) 0 5 ≡ refuse 9)
    × (run empty_map (97 ∷ 97 ∷ 0xE1 ∷ 0x80 ∷ 0x02 ∷ []) 1 5 ≡ refuse 10)
    × (run empty_map (97 ∷ 97 ∷ 0xE1 ∷ 0x80 ∷ 0x02 ∷ []) 1 6 ≡ refuse 8)
    × (code_of pair_bytes (run empty_map (97 ∷ []) 1 5) ≡ 96)
    × (output_of pair_bytes lent (run empty_map (97 ∷ []) 1 5) ≡ 0 ∷ 0 ∷ 0 ∷ 4 ∷ 5 ∷ [])
    × (code_of pair_bytes (run empty_map (97 ∷ 97 ∷ []) 1 5) ≡ 10)
    × (output_of pair_bytes lent (run empty_map (97 ∷ 97 ∷ []) 1 5) ≡ 0 ∷ 0 ∷ 0 ∷ 0 ∷ 0 ∷ [])
    × (keyplay (4 ∷ empty_map) ≡ 0x61 ∷ 0x63 ∷ 0x74 ∷ 0x69 ∷ 0x6F ∷ 0x6E ∷ 0x20 ∷ 0x63 ∷ 0x6F ∷ 0x75 ∷ 0x6E ∷ 0x74 ∷ 0x20 ∷ 0x6D ∷ 0x61 ∷ 0x72 ∷ 0x6B ∷ 0x0A ∷ [])
    × (keyplay (5 ∷ empty_map) ≡ 0x72 ∷ 0x65 ∷ 0x66 ∷ 0x75 ∷ 0x73 ∷ 0x65 ∷ 0x64 ∷ 0x20 ∷ 0x39 ∷ 0x0A ∷ [])
    × (pair_bytes (pair 7 0 true 0 ∷ pair 8 127 true 0 ∷ pair 9 65535 true 0 ∷ []) ≡ 7 ∷ 1 ∷ 0 ∷ 8 ∷ 0x80 ∷ 0x01 ∷ 0 ∷ 9 ∷ 0x80 ∷ 0x80 ∷ 0x04 ∷ 0 ∷ [])
    × (map (λ n. count_number (numbered n 5)) (0 ∷ 1 ∷ most_count ∷ []) ≡ 0 ∷ 1 ∷ 65536 ∷ [])
    × (numbered 0 5 ≡ record { count = 0; typed = false; mark = 5 })
unfolding open-Basics open-Values open-Tables open-Graph open-KeyLoop open-Calls open-Numbers open-MapFile open-Run
files_hold = (refl, refl, refl, refl, refl, refl, refl, refl, refl, refl, refl, refl, refl, refl, refl, refl)

-- ---- one pass

-- Class 5 is a to j, class 6 is a to b, and class 7 is q to r. Of the edges that are gone through for the key b at node 0, any stands before
-- fallthrough, a class before any, the earlier entry of the table before the later, and Key before all. Of two for one event the
-- earlier stays, and neither an edge of node 1 nor one for another key or for a class that b is not in is ever remembered
abbrev pub some_classes : List ClassEntry
some_classes = record { class = 5; low = a; high = j } ∷ record { class = 6; low = a; high = b } ∷ record { class = 7; low = q; high = r } ∷ []

abbrev pub edge : ℕ → Event → ℕ → Edge
edge from ev to = record { from = from; event = ev; to = to }

abbrev pub passed_through : List (Edge × Follow)
passed_through =
    (edge 1 (Key b) 20, NoSuccessor)
    ∷ (edge 0 Fallthrough 21, FallsTo 21)
    ∷ (edge 0 Fallthrough 22, FallsTo 21)
    ∷ (edge 0 (Class 7) 23, FallsTo 21)
    ∷ (edge 0 Any 24, Successor Any 24)
    ∷ (edge 0 Fallthrough 25, Successor Any 24)
    ∷ (edge 0 (Class 6) 26, Successor (Class 6) 26)
    ∷ (edge 0 (Class 5) 27, Successor (Class 5) 27)
    ∷ (edge 0 (Class 6) 28, Successor (Class 5) 27)
    ∷ (edge 0 (Class 5) 29, Successor (Class 5) 27)
    ∷ (edge 0 (Key a) 30, Successor (Class 5) 27)
    ∷ (edge 0 (Key b) 31, Successor (Key b) 31)
    ∷ (edge 0 (Key b) 32, Successor (Key b) 31)
    ∷ (edge 0 (Class 5) 33, Successor (Key b) 31)
    ∷ []

-- what is remembered after each edge
abbrev pub after_each : Follow → List (Edge × Follow) → List Follow
after_each best [] = []
after_each best (x ∷ xs) = better some_classes 0 b best x.0 ∷ after_each (better some_classes 0 b best x.0) xs

pub what_is_remembered : after_each NoSuccessor passed_through ≡ map (λ x. x.1) passed_through
unfolding open-Basics open-Values open-Tables open-Graph open-OnePass
what_is_remembered = refl

-- ---- written maps

-- Bindings are written in the order of their calls: a prefix with step is of kind 2, a mapping 0, a prefix with none 1. The two
-- calls that are refused, with mode 16, are left out, and the one with an empty path is not
abbrev pub some_calls : List Call
some_calls =
    Prefix 0 (one Any) (some (does 9))
    ∷ Map 16 (one (Key a)) (does 1)
    ∷ Prefix 16 [] none
    ∷ Map 1 (one (Key b)) (does 2)
    ∷ Prefix 0 [] none
    ∷ []

abbrev pub their_file : List ℕ
their_file =
    0 ∷ 0 ∷ 0 ∷ 3
    ∷ 2 ∷ 0 ∷ 1 ∷ 0 ∷ 2 ∷ 0 ∷ 1 ∷ 9 ∷ 0 ∷ 0 ∷ 0
    ∷ 0 ∷ 1 ∷ 1 ∷ 0 ∷ 0 ∷ 98 ∷ 0 ∷ 1 ∷ 2 ∷ 0 ∷ 0 ∷ 0
    ∷ 1 ∷ 0 ∷ 0 ∷ []

-- Maps that were read, written to an output. Of 10 bytes lent a map of 9 leaves the last as it was, and 8 are too few: they become
-- zeros. Entering mode 0 gives action 300, which takes two bytes; of two modes both are written, the second empty, and no more
abbrev pub a_prefix : List ℕ
a_prefix = 0 ∷ 0 ∷ 0 ∷ 1 ∷ 1 ∷ 0 ∷ 1 ∷ 0 ∷ 2 ∷ []

abbrev pub two_modes : List ℕ
two_modes = 0 ∷ 2 ∷ 1 ∷ 0xAC ∷ 0x02 ∷ 0 ∷ 2 ∷ 0 ∷ 0 ∷ 0 ∷ 0 ∷ 0 ∷ []

abbrev pub file_by : List Call → List ℕ
file_by cs = file_of graph_kind (leaves graph_kind (fresh graph_kind no_tables) cs)

abbrev pub sent_as : List ℕ → List ℕ → Result (ℕ × List ℕ)
sent_as bs out = read_map bs >>= λ s. accept (write_call graph_kind s out)

-- The file of calls; after open that of its tables and of the calls since; after a change that of its tables, its bindings and the
-- calls since, and after one that is refused the old one; and what is sent
pub written_hold : (file_by [] ≡ empty_map)
    × (file_by some_calls ≡ their_file)
    × (file_by (some_calls ++ (Open digits ∷ Prefix 0 [] none ∷ [])) ≡ 1 ∷ 0 ∷ 48 ∷ 57 ∷ 0 ∷ 0 ∷ 1 ∷ 1 ∷ 0 ∷ 0 ∷ [])
    × (file_by (some_calls ++ (Change digits (Prefixes 0 [] none ∷ []) ∷ Prefix 2 [] none ∷ [])) ≡ 1 ∷ 0 ∷ 48 ∷ 57 ∷ 0 ∷ 0 ∷ 2 ∷ 1 ∷ 0 ∷ 0 ∷ 1 ∷ 2 ∷ 0 ∷ [])
    × (file_by (some_calls ++ (Change digits (Prefixes 0 [] none ∷ mode_16 ∷ []) ∷ [])) ≡ their_file)
    × (sent_as a_prefix (replicate 10 7) ≡ accept (9 * 32, a_prefix ++ (7 ∷ [])))
    × (sent_as a_prefix (replicate 9 7) ≡ accept (9 * 32, a_prefix))
    × (sent_as a_prefix (replicate 8 7) ≡ accept (10, replicate 8 0))
    × (sent_as two_modes (replicate 12 7) ≡ accept (12 * 32, two_modes))
unfolding open-Basics open-Values open-Tables open-Graph open-KeyLoop open-Calls open-Numbers open-MapFile open-Run open-Writing
written_hold = (refl, refl, refl, refl, refl, refl, refl, refl, refl)
