-- Rows beside the table that hold the definitions to document 01's numbers and to the Rust's order of work, where the table, the
-- examples and demand 3 would let a change by one, or another order, pass. Each row says why its answers are so; they were worked
-- out by hand from the document and the Rust's code. The theorems hold by computing.
use Prim.Native.Nat.{ℕ, ◌≤◌, ◌<◌}
use native.Mathlib.Omega.{arith}
use mathlib.Core.Path.{◌≡◌, refl, sym, ◌∙◌}
use mathlib.Core.Bool.{true, false}
use mathlib.Core.Option.{none, some}
use mathlib.Core.List.{List, [], ◌∷◌, ◌++◌, map}
use lib.Dec.{leb, leb→le, le→leb}
use lib.ListN.{length, replicate}
use Rattle.rules.specs.Basics.{accept, refuse, open-Basics}
use Rattle.rules.specs.Values.{largest, mode_count, class_count, sequence_count, status_count, most_classes, most_actions, most_rules, most_nodes, most_edges, most_parts, most_kept, most_repeats, most_queued, most_tracked, most_trail, composed, first_key}
use Rattle.rules.specs.Values.{Key, Class, Any, Fallthrough, Min, Max, Step, Binding, Maps, Prefixes, default_step, pair, default_pair, open-Values}
use Rattle.rules.specs.Tables.{ClassEntry, ModeEntry, Rule, Tables, no_tables, open-Tables}
use Rattle.rules.specs.Graph.{NodeAction, Empty, Root, Holds, Node, Graph, fresh_graph, add_node, put_edge, open-Graph}
use Rattle.rules.specs.KeyLoop.{tracker, no_tracker, open-KeyLoop}
use Rattle.rules.specs.Calls.{Call, Open, Map, Prefix, Pop, Repeats, Reset, Change, Answer, Accepted, Refused, Popped, Nothing, Pressed, PressRefused, Machine, graph_kind, fresh, bind, change_call, call, leaves, holds_action, find, hint, open-Calls}
use Rattle.rules.specs.Numbers.{open-Numbers}
use Rattle.rules.specs.MapFile.{read_bindings, read_map, open-MapFile}
use Rattle.rules.specs.Run.{most_output, most_input, play_budget, lines_of, decimal, refusal, text_of, play_input, keyplay, open-Run}
use Rattle.rules.specs.Writing.{written, file_of, open-Writing}
use Rattle.rules.proofs.Table.{Tried, ◌⇒◌, part, once, one, two, three, does, key, key_within, rounds, gives, in_a_row, a, b, j, q, r, z, Row, row, try_all, step_held, outcome}
use Rattle.rules.proofs.Examples.{mode_16, refusal_of, Bytes, ◌meets◌}
use Rattle.rules.proofs.Tests.{by_cases, no_way, T-is, is_T}

-- ---- the limits, as document 01 has them, and the 1,024 kept calls of document 02's request (i)

pub limits_hold : (largest ≡ 65535)
    × (mode_count ≡ 16)
    × (class_count ≡ 256)
    × (sequence_count ≡ 8)
    × (status_count ≡ 5)
    × (most_classes ≡ 16)
    × (most_actions ≡ 4)
    × (most_rules ≡ 64)
    × (most_nodes ≡ 1024)
    × (most_edges ≡ 2048)
    × (most_parts ≡ 32)
    × (most_kept ≡ 1024)
    × (most_repeats ≡ 255)
    × (most_queued ≡ 256)
    × (most_tracked ≡ 64)
    × (most_trail ≡ 64)
    × (composed ≡ 32768)
    × (first_key ≡ 27)
    × (most_output ≡ 65536)
    × (most_input ≡ 65536)
    × (play_budget ≡ 1000)
limits_hold = (refl, refl, refl, refl, refl, refl, refl, refl, refl, refl, refl, refl, refl, refl, refl, refl, refl, refl, refl, refl, refl)

-- ---- ranges: each value is taken at its limit, and one past it is 1

abbrev pub class : ℕ → ℕ → ℕ → ClassEntry
class c low high = record { class = c; low = low; high = high }

abbrev pub classes : List ClassEntry → Tables
classes cs = record { classes = cs; modes = []; rules = [] }

abbrev pub entry : List ℕ → List ℕ → ℕ → ModeEntry
entry enter unmapped next = record { enter = enter; unmapped = unmapped; next = some next }

abbrev pub modes : List ModeEntry → Tables
modes es = record { classes = []; modes = es; rules = [] }

abbrev pub rule : ℕ → ℕ → ℕ → ℕ → ℕ → Rule
rule mode low high s status = record { mode = mode; low = low; high = high; sequence = s; status = status }

abbrev pub rules : List Rule → Tables
rules rs = record { classes = []; modes = []; rules = rs }

-- 16 classes, class 255, low = high; 16 modes, lists of 4, next mode 15; 64 rules, mode 15, sequence 7, status 4
abbrev pub tables_at_their_limits : Row
tables_at_their_limits = row (
    Open (classes (replicate 16 (class 255 5 5))) ⇒ Accepted
    ∷ Open (classes (replicate 17 (class 0 5 5))) ⇒ Refused 1
    ∷ Open (classes (class 256 5 5 ∷ [])) ⇒ Refused 1
    ∷ Open (classes (class 0 5 4 ∷ [])) ⇒ Refused 1
    ∷ Open (modes (replicate 16 (entry (replicate 4 1) (replicate 4 1) 15))) ⇒ Accepted
    ∷ Open (modes (replicate 17 (entry [] [] 0))) ⇒ Refused 1
    ∷ Open (modes (entry (replicate 5 1) [] 0 ∷ [])) ⇒ Refused 1
    ∷ Open (modes (entry [] (replicate 5 1) 0 ∷ [])) ⇒ Refused 1
    ∷ Open (modes (entry [] [] 16 ∷ [])) ⇒ Refused 1
    ∷ Open (rules (replicate 64 (rule 15 5 5 7 4))) ⇒ Accepted
    ∷ Open (rules (replicate 65 (rule 0 0 0 0 0))) ⇒ Refused 1
    ∷ Open (rules (rule 16 5 5 7 4 ∷ [])) ⇒ Refused 1
    ∷ Open (rules (rule 15 5 4 7 4 ∷ [])) ⇒ Refused 1
    ∷ Open (rules (rule 15 5 5 8 4 ∷ [])) ⇒ Refused 1
    ∷ Open (rules (rule 15 5 5 7 5 ∷ [])) ⇒ Refused 1
    ∷ [])

-- a step with n actions, a mark, a next and a fallthrough mode
abbrev pub full : ℕ → ℕ → ℕ → ℕ → Step
full n next fall mark = record { flag = false; actions = replicate n 1; next = some next; fallthrough = some fall; mark = some mark }

-- mode 15, class 255, 4 actions, modes 15, mark 1; 32 parts; repeats of 255, which make no node where the edge for a is there
abbrev pub bindings_at_their_limits : Row
bindings_at_their_limits = row (
    Map 15 (one (Class 255)) (full 4 15 15 1) ⇒ Accepted
    ∷ Map 0 (one (Class 256)) (does 1) ⇒ Refused 1
    ∷ Map 0 (one Any) (full 5 15 15 1) ⇒ Refused 1
    ∷ Map 0 (one Any) (full 4 16 15 1) ⇒ Refused 1
    ∷ Map 0 (one Any) (full 4 15 16 1) ⇒ Refused 1
    ∷ Map 0 (one Any) (full 4 15 15 0) ⇒ Refused 1
    ∷ Map 0 (one Any) (full 4 15 15 65535) ⇒ Accepted
    ∷ Map 0 (one (Key a)) (does 1) ⇒ Accepted
    ∷ Map 0 (part (Min 255) (Key a) ∷ once (Key b) ∷ []) (does 2) ⇒ Accepted
    ∷ Map 0 (part (Max 255) (Key a) ∷ once (Key b) ∷ []) (does 2) ⇒ Accepted
    ∷ Map 0 (part (Min 256) (Key a) ∷ once (Key b) ∷ []) (does 2) ⇒ Refused 1
    ∷ Map 0 (part (Max 256) (Key a) ∷ once (Key b) ∷ []) (does 2) ⇒ Refused 1
    ∷ Map 0 (replicate 32 (once (Key a))) (does 3) ⇒ Accepted
    ∷ Map 0 (replicate 33 (once (Key a))) (does 3) ⇒ Refused 1
    ∷ Prefix 15 (one (Key b)) (some (full 4 15 15 1)) ⇒ Accepted
    ∷ Prefix 16 (one (Key b)) none ⇒ Refused 1
    ∷ Prefix 0 (one (Class 256)) none ⇒ Refused 1
    ∷ Prefix 0 (one (Key b)) (some (full 5 15 15 1)) ⇒ Refused 1
    ∷ Repeats 7 none ⇒ Accepted
    ∷ Repeats 8 none ⇒ Refused 1
    ∷ [])

-- ---- sequences

-- of sequence 0: action 1 is Atom, 2 Break, 3 Ignore, 4 Restart, and 5 to 9 are Track
abbrev pub statuses : Tables
statuses = rules (rule 0 1 1 0 0 ∷ rule 0 2 2 0 1 ∷ rule 0 3 3 0 2 ∷ rule 0 4 4 0 3 ∷ rule 0 5 9 0 4 ∷ [])

-- key n gives action n
abbrev pub its_own : ℕ → Tried
its_own n = Map 0 (one (Key n)) (does n) ⇒ Accepted

-- a key whose pair is popped
abbrev pub played : ℕ → List Tried → List Tried
played n ts = key n ⇒ rounds 1 ∷ Pop ⇒ gives n none 0 ∷ ts

-- Ignore and Break remember nothing, and a Track stands behind what was tracked; after a Break, an Atom or a reset a Track starts
-- anew, after a Restart it goes on
abbrev pub every_status : Row
every_status = row (
    Open statuses ⇒ Accepted
    ∷ its_own 1
    ∷ its_own 2
    ∷ its_own 3
    ∷ its_own 4
    ∷ its_own 5
    ∷ its_own 9
    ∷ played 5 (played 3 (played 9 (played 2 (
    Repeats 0 none ⇒ Accepted
    ∷ Pop ⇒ gives 5 none 0
    ∷ Pop ⇒ gives 9 none 0
    ∷ Pop ⇒ Nothing
    ∷ played 9 (played 5 (
    Repeats 0 none ⇒ Accepted
    ∷ Pop ⇒ gives 9 none 0
    ∷ Pop ⇒ gives 5 none 0
    ∷ Pop ⇒ Nothing
    ∷ played 4 (played 5 (
    Repeats 0 none ⇒ Accepted
    ∷ Pop ⇒ gives 4 none 0
    ∷ Pop ⇒ gives 5 none 0
    ∷ Pop ⇒ Nothing
    ∷ played 1 (played 9 (
    Repeats 0 none ⇒ Accepted
    ∷ Pop ⇒ gives 9 none 0
    ∷ Pop ⇒ Nothing
    ∷ Reset ⇒ Accepted
    ∷ played 5 (
    Repeats 0 none ⇒ Accepted
    ∷ Pop ⇒ gives 5 none 0
    ∷ Pop ⇒ Nothing
    ∷ []))))))))))))

-- all that match apply, in order: Restart then Track remembers the pair twice, Track then Restart once
abbrev pub rules_in_order : Row
rules_in_order = row (
    Open (rules (rule 0 0 0 0 3 ∷ rule 0 0 0 0 4 ∷ rule 0 0 0 1 4 ∷ rule 0 0 0 1 3 ∷ [])) ⇒ Accepted
    ∷ key q ⇒ rounds 1
    ∷ Pop ⇒ gives 0 none 0
    ∷ Repeats 0 none ⇒ Accepted
    ∷ Pop ⇒ gives 0 none 0
    ∷ Pop ⇒ gives 0 none 0
    ∷ Pop ⇒ Nothing
    ∷ Repeats 1 none ⇒ Accepted
    ∷ Pop ⇒ gives 0 none 0
    ∷ Pop ⇒ Nothing
    ∷ [])

-- ---- the event hook, keys that decompose, the trail

-- Of class 0 the keys 48 and 57 count, 47 and 58 do not, and of class 1, which holds 50 first, none: they do not type either. Any
-- keeps the count, typed or not, and counting keeps the mark; a step's mark replaces the mark alone
abbrev pub count_and_mark : Row
count_and_mark = row (
    Open (classes (class 1 50 50 ∷ class 0 40 60 ∷ [])) ⇒ Accepted
    ∷ Prefix 0 (one (Class 0)) none ⇒ Accepted
    ∷ Prefix 0 (one (Class 1)) none ⇒ Accepted
    ∷ Prefix 0 (one Any) none ⇒ Accepted
    ∷ Map 0 (one (Key r)) (does 7) ⇒ Accepted
    ∷ Map 0 (one (Key b)) (record { flag = false; actions = 3 ∷ []; next = none; fallthrough = none; mark = some 9 }) ⇒ Accepted
    ∷ in_a_row (47 ∷ 58 ∷ 50 ∷ z ∷ r ∷ [])
    ++ (Pop ⇒ gives 7 none 122
    ∷ in_a_row (48 ∷ z ∷ r ∷ [])
    ++ (Pop ⇒ gives 7 (some 0) 122
    ∷ in_a_row (57 ∷ z ∷ 48 ∷ 47 ∷ 58 ∷ 50 ∷ r ∷ [])
    ++ (Pop ⇒ gives 7 (some 90) 122
    ∷ key 52 ⇒ rounds 1
    ∷ key b ⇒ rounds 1
    ∷ Pop ⇒ gives 3 (some 4) 9
    ∷ Pop ⇒ Nothing
    ∷ []))))

-- 32,768 is 27 and 0, and 32,767 is a key
abbrev pub the_least_key_that_decomposes : Row
the_least_key_that_decomposes = row (
    Map 0 (one (Key 27)) (does 1) ⇒ Accepted
    ∷ Map 0 (one (Key 0)) (does 2) ⇒ Accepted
    ∷ key 32768 ⇒ rounds 3
    ∷ Pop ⇒ gives 1 none 0
    ∷ Pop ⇒ gives 2 none 0
    ∷ key 32767 ⇒ rounds 1
    ∷ Pop ⇒ gives 0 none 0
    ∷ Pop ⇒ Nothing
    ∷ [])

-- of the trail a b the first key is given up and b tried again, before the key in hand
abbrev pub the_trail_in_order : Row
the_trail_in_order = row (
    Map 0 (three (Key a) (Key b) (Key j)) (does 1) ⇒ Accepted
    ∷ Map 0 (one (Key b)) (does 2) ⇒ Accepted
    ∷ key a ⇒ rounds 1
    ∷ key b ⇒ rounds 1
    ∷ key q ⇒ rounds 3
    ∷ Pop ⇒ gives 0 none 0
    ∷ Pop ⇒ gives 2 none 0
    ∷ Pop ⇒ gives 0 none 0
    ∷ Pop ⇒ Nothing
    ∷ [])

-- ---- Max and Min, in the middle and at the end

-- At most two a, then b. Root and first a fall to the end of the repeats, an empty node, from which b leads to the step: that is a
-- round more, and the trail stays, so after a q the a is given up first. Of three a the first is given up
abbrev pub at_most_twice : Row
at_most_twice = row (
    Map 0 (part (Max 2) (Key a) ∷ once (Key b) ∷ []) (does 1) ⇒ Accepted
    ∷ key b ⇒ rounds 2
    ∷ Pop ⇒ gives 1 none 0
    ∷ key a ⇒ rounds 1
    ∷ key b ⇒ rounds 2
    ∷ Pop ⇒ gives 1 none 0
    ∷ key a ⇒ rounds 1
    ∷ key a ⇒ rounds 1
    ∷ key b ⇒ rounds 1
    ∷ Pop ⇒ gives 1 none 0
    ∷ Pop ⇒ Nothing
    ∷ key a ⇒ rounds 1
    ∷ key q ⇒ rounds 4
    ∷ Pop ⇒ gives 0 none 0
    ∷ Pop ⇒ gives 0 none 0
    ∷ Pop ⇒ Nothing
    ∷ key a ⇒ rounds 1
    ∷ key a ⇒ rounds 1
    ∷ key a ⇒ rounds 3
    ∷ Pop ⇒ gives 0 none 0
    ∷ Pop ⇒ Nothing
    ∷ [])

-- At most two a and no more: the second runs the step. The root falls to the step too, so a q runs it again and again
abbrev pub at_most_twice_at_the_end : Row
at_most_twice_at_the_end = row (
    Map 0 (part (Max 2) (Key a) ∷ []) (does 1) ⇒ Accepted
    ∷ key a ⇒ rounds 1
    ∷ Pop ⇒ Nothing
    ∷ key a ⇒ rounds 1
    ∷ Pop ⇒ gives 1 none 0
    ∷ key a ⇒ rounds 1
    ∷ key_within 3 q ⇒ PressRefused 8 3
    ∷ [])

-- Two a that wait for more are both on the trail, which a reset keeps. At q the first is given up; the second then waits at the
-- node of one a, and is given up at q; q is left
abbrev pub reset_after_two_of_a : List Tried
reset_after_two_of_a =
    key a ⇒ rounds 1
    ∷ key a ⇒ rounds 1
    ∷ Reset ⇒ Accepted
    ∷ key q ⇒ rounds 4
    ∷ Pop ⇒ gives 0 none 0
    ∷ Pop ⇒ gives 0 none 0
    ∷ Pop ⇒ gives 0 none 0
    ∷ Pop ⇒ Nothing
    ∷ []

-- At least two a, then b: more a stay where they are, and what is no b falls to the step, which is run before the key is tried
-- again. One a is too few
abbrev pub at_least_twice : Row
at_least_twice = row (
    Map 0 (part (Min 2) (Key a) ∷ once (Key b) ∷ []) (does 1) ⇒ Accepted
    ∷ in_a_row (a ∷ a ∷ a ∷ b ∷ [])
    ++ (Pop ⇒ gives 1 none 0
    ∷ key a ⇒ rounds 1
    ∷ key a ⇒ rounds 1
    ∷ key q ⇒ rounds 2
    ∷ Pop ⇒ gives 1 none 0
    ∷ Pop ⇒ gives 0 none 0
    ∷ key a ⇒ rounds 1
    ∷ key b ⇒ rounds 2
    ∷ Pop ⇒ gives 0 none 0
    ∷ Pop ⇒ gives 0 none 0
    ∷ reset_after_two_of_a))

-- Any number of a, then b: the root falls to the node of the repeats, and that to the step, so a q runs it again and again
abbrev pub none_or_more : Row
none_or_more = row (
    Map 0 (part (Min 0) (Key a) ∷ once (Key b) ∷ []) (does 1) ⇒ Accepted
    ∷ key b ⇒ rounds 2
    ∷ Pop ⇒ gives 1 none 0
    ∷ key_within 4 q ⇒ PressRefused 8 4
    ∷ [])

-- At least two a and no more: the node of the repeats falls to the step
abbrev pub at_least_twice_at_the_end : Row
at_least_twice_at_the_end = row (
    Map 0 (part (Min 2) (Key a) ∷ []) (does 1) ⇒ Accepted
    ∷ key a ⇒ rounds 1
    ∷ key q ⇒ rounds 2
    ∷ Pop ⇒ gives 0 none 0
    ∷ Pop ⇒ gives 0 none 0
    ∷ key a ⇒ rounds 1
    ∷ key a ⇒ rounds 1
    ∷ key a ⇒ rounds 1
    ∷ key q ⇒ rounds 2
    ∷ Pop ⇒ gives 1 none 0
    ∷ Pop ⇒ gives 0 none 0
    ∷ reset_after_two_of_a)

-- ---- prefixes

-- a step that only sets the mark, so the place stays at its node
abbrev pub marks : Step
marks = record { flag = false; actions = []; next = none; fallthrough = none; mark = some 9 }

-- With a step, a prefix ends at a node that falls to the root: r takes a round more, and after Min, from whose node it falls to
-- that one, two more
abbrev pub prefixes_with_a_step : Row
prefixes_with_a_step = row (
    Prefix 0 (two (Key j) (Key b)) (some marks) ⇒ Accepted
    ∷ Prefix 0 (part (Min 1) (Key a) ∷ []) (some marks) ⇒ Accepted
    ∷ Map 0 (one (Key r)) (does 7) ⇒ Accepted
    ∷ key j ⇒ rounds 1
    ∷ key b ⇒ rounds 1
    ∷ Pop ⇒ Nothing
    ∷ key r ⇒ rounds 2
    ∷ Pop ⇒ gives 7 none 9
    ∷ key a ⇒ rounds 1
    ∷ key a ⇒ rounds 1
    ∷ key r ⇒ rounds 3
    ∷ Pop ⇒ gives 7 none 9
    ∷ Pop ⇒ Nothing
    ∷ [])

-- Alone, Max 0 adds nothing and Min 0 is Min 1: the root falls nowhere. From the repeats q falls to the end and to the root. An a
-- there is on the trail, which a reset keeps, so at q it is given up first
abbrev pub none_alone : Row
none_alone = row (
    Prefix 0 (part (Max 0) (Key b) ∷ []) none ⇒ Accepted
    ∷ key b ⇒ rounds 1
    ∷ Pop ⇒ gives 0 none 0
    ∷ Prefix 0 (part (Min 0) (Key a) ∷ []) none ⇒ Accepted
    ∷ key q ⇒ rounds 1
    ∷ Pop ⇒ gives 0 none 0
    ∷ key a ⇒ rounds 1
    ∷ key q ⇒ rounds 3
    ∷ Pop ⇒ gives 0 none 0
    ∷ key a ⇒ rounds 1
    ∷ key a ⇒ rounds 1
    ∷ key q ⇒ rounds 3
    ∷ Pop ⇒ gives 0 none 0
    ∷ key a ⇒ rounds 1
    ∷ Reset ⇒ Accepted
    ∷ key q ⇒ rounds 2
    ∷ Pop ⇒ gives 0 none 0
    ∷ Pop ⇒ gives 0 none 0
    ∷ Pop ⇒ Nothing
    ∷ [])

-- Behind another part they are taken as they are: q falls to the end and to the root, which clears the trail; so it does after b
abbrev pub none_behind_another : Row
none_behind_another = row (
    Prefix 0 (once (Key a) ∷ part (Max 0) (Key b) ∷ []) none ⇒ Accepted
    ∷ Prefix 0 (once (Key j) ∷ part (Min 0) (Key b) ∷ []) none ⇒ Accepted
    ∷ key a ⇒ rounds 1
    ∷ key q ⇒ rounds 3
    ∷ Pop ⇒ gives 0 none 0
    ∷ Pop ⇒ Nothing
    ∷ key j ⇒ rounds 1
    ∷ key q ⇒ rounds 3
    ∷ Pop ⇒ gives 0 none 0
    ∷ key j ⇒ rounds 1
    ∷ key b ⇒ rounds 1
    ∷ key q ⇒ rounds 3
    ∷ Pop ⇒ gives 0 none 0
    ∷ Pop ⇒ Nothing
    ∷ [])

-- Max 1 alone: a runs the step, and from the root q falls to it and back, so it runs the step until the budget is used up
abbrev pub a_prefix_that_goes_round : Row
a_prefix_that_goes_round = row (
    Prefix 0 (part (Max 1) (Key a) ∷ []) (some (does 1)) ⇒ Accepted
    ∷ key a ⇒ rounds 1
    ∷ Pop ⇒ gives 1 none 0
    ∷ key_within 3 q ⇒ PressRefused 8 3
    ∷ [])

-- Without a step the end of Max is an empty node: a is on the trail, which a reset keeps, so it is given up before q
abbrev pub the_end_of_a_prefix_is_empty : Row
the_end_of_a_prefix_is_empty = row (
    Map 0 (one (Key z)) (record { flag = false; actions = []; next = some 1; fallthrough = none; mark = none }) ⇒ Accepted
    ∷ Prefix 1 (part (Max 1) (Key a) ∷ []) none ⇒ Accepted
    ∷ key z ⇒ rounds 1
    ∷ Pop ⇒ gives 0 none 0
    ∷ key a ⇒ rounds 1
    ∷ Reset ⇒ Accepted
    ∷ key q ⇒ rounds 2
    ∷ Pop ⇒ gives 0 none 0
    ∷ Pop ⇒ gives 0 none 0
    ∷ Pop ⇒ Nothing
    ∷ [])

-- ---- a change of map

-- A trail of 64 is walked and kept: one more a there is 7. In a map of 65 a, the 65th runs the step. In one of 64 the last of them
-- would run it, so the trail is lost, and a is the first of 64
abbrev pub a_change_of_64_keys : Row
a_change_of_64_keys = row (
    Map 0 (part (Min 1) (Key a) ∷ once (Key b) ∷ []) (does 1) ⇒ Accepted
    ∷ replicate 64 (key a ⇒ rounds 1)
    ++ (Change no_tables (Maps 0 (part (Min 1) (Key a) ∷ once (Key b) ∷ []) (does 2) ∷ []) ⇒ Accepted
    ∷ key a ⇒ PressRefused 7 1
    ∷ Change no_tables (Maps 0 (part (Max 65) (Key a) ∷ []) (does 3) ∷ []) ⇒ Accepted
    ∷ key a ⇒ rounds 1
    ∷ Pop ⇒ gives 3 none 0
    ∷ replicate 64 (key a ⇒ rounds 1)
    ++ (Change no_tables (Maps 0 (part (Max 64) (Key a) ∷ []) (does 4) ∷ []) ⇒ Accepted
    ∷ replicate 63 (key a ⇒ rounds 1)
    ++ (Pop ⇒ Nothing
    ∷ key a ⇒ rounds 1
    ∷ Pop ⇒ gives 4 none 0
    ∷ Pop ⇒ Nothing
    ∷ []))))

unfoldable pub all_rows : List Row
all_rows =
    tables_at_their_limits
    ∷ bindings_at_their_limits
    ∷ every_status
    ∷ rules_in_order
    ∷ count_and_mark
    ∷ the_least_key_that_decomposes
    ∷ the_trail_in_order
    ∷ at_most_twice
    ∷ at_most_twice_at_the_end
    ∷ at_least_twice
    ∷ none_or_more
    ∷ at_least_twice_at_the_end
    ∷ prefixes_with_a_step
    ∷ none_alone
    ∷ none_behind_another
    ∷ a_prefix_that_goes_round
    ∷ the_end_of_a_prefix_is_empty
    ∷ a_change_of_64_keys
    ∷ []

-- The theorem: the rules give every row its answers
pub rows_hold : map outcome all_rows ≡ all_rows
unfolding open-Basics open-Values open-Tables open-Graph open-KeyLoop open-Calls try_all step_held outcome all_rows
rows_hold = refl

-- ---- defaults, full graphs, find and hint

abbrev pub with_edges : ℕ → Graph
with_edges n = record { nodes = []; edges = replicate n (record { from = 0; event = Any; to = 0 }) }

abbrev pub with_nodes : ℕ → Graph
with_nodes n = record { nodes = replicate n (record { mode = 3; action = Empty }); edges = [] }

abbrev pub node : NodeAction → Node
node x = record { mode = 3; action = x }

-- A sequence is unbroken at first. The 2,048th edge and the 1,024th node beside the 16 roots are the last. Only a step has an action
pub graphs_hold : (no_tracker ≡ tracker [] false)
    × (default_step ≡ record { flag = false; actions = []; next = none; fallthrough = none; mark = none })
    × (default_pair ≡ pair 0 0 false 0)
    × (map (λ n. refusal_of (put_edge (record { from = 0; event = Key a; to = 0 }) (with_edges n) none)) (2047 ∷ 2048 ∷ []) ≡ 0 ∷ 3 ∷ [])
    × (map (λ n. refusal_of (add_node 0 Empty (with_nodes n))) (1039 ∷ 1040 ∷ []) ≡ 0 ∷ 2 ∷ [])
    × (map (holds_action 3 7) (node Empty ∷ node Root ∷ node (Holds (does 6)) ∷ node (Holds (does 7)) ∷ []) ≡ false ∷ false ∷ false ∷ true ∷ [])
    × (holds_action 2 7 (node (Holds (does 7))) ≡ false)
unfolding open-Basics open-Values open-Graph open-KeyLoop open-Calls
graphs_hold = (refl, refl, refl, refl, refl, refl, refl)

-- a machine that keeps n calls
abbrev pub keeping : ℕ → Graph → Machine graph_kind
keeping n g = record { bindings = g; kept = replicate n (Maps 0 [] (does 1)); state = (fresh graph_kind no_tables).state }

-- what a binding, and the reading of one, come to on the machine
abbrev pub binds : Binding → Machine graph_kind → ℕ
binds x s = refusal_of (bind graph_kind x s)

abbrev pub reads_one : List ℕ → Machine graph_kind → ℕ
reads_one bs s = refusal_of (read_bindings 1 s bs)

-- 1,023 calls, and 1,024 with a fresh graph, a full graph and a full edge table
abbrev pub nearly_full_and_full : List (Machine graph_kind)
nearly_full_and_full = keeping 1023 fresh_graph ∷ keeping 1024 fresh_graph ∷ keeping 1024 (with_nodes 1040) ∷ keeping 1024 (with_edges 2048) ∷ []

-- what a change to so many bindings comes to on the machine
abbrev pub changes_to : ℕ → Machine graph_kind → ℕ
changes_to n s = refusal_of (change_call graph_kind no_tables (replicate n (Prefixes 0 [] none)) s)

-- the machines after a change to no binding
abbrev pub emptied_map : Machine graph_kind → Machine graph_kind
emptied_map s = (call graph_kind s (Change no_tables [])).0

-- The 1,024th call is kept, the next is 11; a full graph is 2, and a full edge table 3, before that. In a file 11 is met after the
-- binding's last number, before a byte left over: an early end and mode 16 are met first. After a change to nothing all of them have
-- room. A change counts its own bindings alone: 1,024 are kept, whatever was kept before, and the 1,025th is 11
pub keeps_hold : (map (binds (Maps 0 (one (Key a)) (does 1))) nearly_full_and_full ≡ 0 ∷ 11 ∷ 2 ∷ 3 ∷ [])
    × (map (binds (Prefixes 0 (one (Key a)) (some (does 1)))) nearly_full_and_full ≡ 0 ∷ 11 ∷ 2 ∷ 3 ∷ [])
    × (map (reads_one (1 ∷ 0 ∷ 0 ∷ 0 ∷ [])) (keeping 1023 fresh_graph ∷ keeping 1024 fresh_graph ∷ []) ≡ 0 ∷ 11 ∷ [])
    × (map (λ bs. reads_one bs (keeping 1024 fresh_graph)) ((1 ∷ 0 ∷ []) ∷ (1 ∷ 16 ∷ []) ∷ []) ≡ 9 ∷ 1 ∷ [])
    × (map (λ s. binds (Maps 0 (one (Key a)) (does 1)) (emptied_map s)) nearly_full_and_full ≡ 0 ∷ 0 ∷ 0 ∷ 0 ∷ [])
    × (map (λ n. changes_to n (keeping 1024 (with_nodes 1040))) (1024 ∷ 1025 ∷ []) ≡ 0 ∷ 11 ∷ [])
unfolding open-Basics open-Values open-Tables open-Graph open-KeyLoop open-Calls open-Numbers open-MapFile
keeps_hold = (refl, refl, refl, refl, refl, refl)

-- The nodes that these make: 16 and 17 with action 1, the higher for the lower key; 18 in mode 1, flagged; 19, which enters mode 1;
-- in mode 2 the root itself gets action 1 (E7), and 20; 21 in mode 3, to which no key leads any more (E6)
abbrev pub shown : List Call
shown =
    Map 0 (one (Key b)) (does 1)
    ∷ Map 0 (one (Key a)) (does 1)
    ∷ Map 1 (one (Key a)) (record { flag = true; actions = 4 ∷ 3 ∷ []; next = none; fallthrough = none; mark = none })
    ∷ Map 0 (one (Key j)) (record { flag = false; actions = []; next = some 1; fallthrough = none; mark = none })
    ∷ Prefix 2 (one (Key a)) none
    ∷ Map 2 (one (Key a)) (does 1)
    ∷ Map 2 (one (Key b)) (does 1)
    ∷ Map 3 (one (Key a)) (does 6)
    ∷ Prefix 3 (one (Key a)) none
    ∷ []

-- a change that is refused, with a binding before the one that is; and one that is not, whose nodes are numbered from 16 again
abbrev pub refused_change : Call
refused_change = Change no_tables (Maps 0 (one (Key a)) (does 1) ∷ mode_16 ∷ [])

abbrev pub two_nodes : Call
two_nodes = Change no_tables (Maps 1 (two (Key a) (Key b)) (does 1) ∷ Prefixes 0 (one (Key q)) none ∷ [])

-- the graph that a call leaves behind `shown`
abbrev pub after_shown : Call → Graph
after_shown c = (leaves graph_kind (fresh graph_kind no_tables) (shown ++ (c ∷ []))).bindings

-- The lowest; one in another mode alone; the second action of a flagged step; action 0, which j's step gives and does not have; a
-- root before a higher node; a step that no key runs; a mode without bindings; mode 16. After a refused change the old map's nodes,
-- and after an accepted one those of the new map alone
pub finds_hold : let g = (leaves graph_kind (fresh graph_kind no_tables) shown).bindings in
    (find g 0 1 ≡ accept (some 16))
    × (find g 1 1 ≡ accept none)
    × (find g 1 3 ≡ accept (some 18))
    × (find g 0 0 ≡ accept none)
    × (find g 2 1 ≡ accept (some 2))
    × (find g 3 6 ≡ accept (some 21))
    × (find g 15 1 ≡ accept none)
    × (find g 16 1 ≡ refuse 1)
    × (find (after_shown refused_change) 1 3 ≡ accept (some 18))
    × (find (after_shown two_nodes) 1 1 ≡ accept (some 17))
    × (find (after_shown two_nodes) 2 1 ≡ accept none)
unfolding open-Basics open-Values open-Tables open-Graph open-KeyLoop open-Calls
finds_hold = (refl, refl, refl, refl, refl, refl, refl, refl, refl, refl, refl)

-- each call's answer, with the hint after it
abbrev pub hints : Machine graph_kind → List Call → List (Answer × ℕ)
hints s [] = []
hints s (c ∷ cs) = let r = call graph_kind s c in (r.1, hint r.0.bindings) ∷ hints r.0 cs

-- a path of two keys, and one that goes on
abbrev pub two_keys : Call
two_keys = Map 3 (two (Key a) (Key b)) (does 1)

abbrev pub three_keys : Call
three_keys = Map 3 (three (Key a) (Key b) (Key j)) (does 1)

-- a mode, a number and a count out of range; a key and a pop; and an open
abbrev pub behind_shown : List Call
behind_shown = Map 16 (one (Key q)) (does 1) ∷ Prefix 0 (one (Class 256)) none ∷ Open (classes (replicate 17 (class 0 5 5))) ∷ key j ∷ Pop ∷ Open no_tables ∷ []

-- In this order: of graphs by their nodes, where no call makes one of 0, 15 or 1,041; after each call of `shown`, whose prefixes make
-- no node, nor does the mapping onto a root; behind them what is refused with 1, what binds nothing, and an open that begins anew;
-- a change that is refused with 1, one to two nodes, a node more, and a change to nothing; where none is left, the change to two;
-- where two nodes are left, three keys (2), two, the same again, a prefix, which needs none, and a key more (2); and two nodes of a
-- call that has made them when it is refused with 3, and with 11
pub hints_hold :
    (map (λ n. hint (with_nodes n)) (0 ∷ 15 ∷ 16 ∷ 17 ∷ 1039 ∷ 1040 ∷ 1041 ∷ []) ≡ 1024 ∷ 1024 ∷ 1024 ∷ 1023 ∷ 1 ∷ 0 ∷ 0 ∷ [])
    × (map (λ x. x.1) (hints (fresh graph_kind no_tables) shown) ≡ 1023 ∷ 1022 ∷ 1021 ∷ 1020 ∷ 1020 ∷ 1020 ∷ 1019 ∷ 1018 ∷ 1018 ∷ [])
    × (hints (leaves graph_kind (fresh graph_kind no_tables) shown) behind_shown
    ≡ (Refused 1, 1018) ∷ (Refused 1, 1018) ∷ (Refused 1, 1018) ∷ (Pressed 1, 1018) ∷ (Popped (pair 0 0 false 0), 1018) ∷ (Accepted, 1024) ∷ [])
    × (hints (leaves graph_kind (fresh graph_kind no_tables) shown) (refused_change ∷ two_nodes ∷ Map 0 (one (Key j)) (does 1) ∷ Change no_tables [] ∷ [])
    ≡ (Refused 1, 1018) ∷ (Accepted, 1022) ∷ (Accepted, 1021) ∷ (Accepted, 1024) ∷ [])
    × (hints (keeping 1024 (with_nodes 1040)) (two_nodes ∷ []) ≡ (Accepted, 1022) ∷ [])
    × (hints (keeping 0 (with_nodes 1038)) (three_keys ∷ two_keys ∷ two_keys ∷ Prefix 3 (one (Key q)) none ∷ three_keys ∷ [])
    ≡ (Refused 2, 2) ∷ (Accepted, 0) ∷ (Accepted, 0) ∷ (Accepted, 0) ∷ (Refused 2, 0) ∷ [])
    × (hints (keeping 0 (record { nodes = fresh_graph.nodes; edges = (with_edges 2047).edges })) (two_keys ∷ []) ≡ (Refused 3, 1024) ∷ [])
    × (hints (keeping 1024 fresh_graph) (two_keys ∷ []) ≡ (Refused 11, 1024) ∷ [])
unfolding open-Basics open-Values open-Tables open-Graph open-KeyLoop open-Calls
hints_hold = (refl, refl, refl, refl, refl, refl, refl, refl)

-- ---- map files and text

-- each number is taken at its limit, and one past it is 1 when it is read, though the file ends there
abbrev pub files_at_their_limits : List Bytes
files_at_their_limits =
    (1 ∷ 0xFF ∷ 1 ∷ 5 ∷ 5 ∷ 0 ∷ 0 ∷ 0 ∷ []) meets 0
    ∷ (1 ∷ 0x80 ∷ 2 ∷ []) meets 1
    ∷ (0 ∷ 1 ∷ 4 ∷ 1 ∷ 1 ∷ 1 ∷ 1 ∷ 4 ∷ 1 ∷ 1 ∷ 1 ∷ 1 ∷ 16 ∷ 0 ∷ 0 ∷ []) meets 0
    ∷ (0 ∷ 17 ∷ []) meets 1
    ∷ (0 ∷ 1 ∷ 5 ∷ []) meets 1
    ∷ (0 ∷ 1 ∷ 0 ∷ 5 ∷ []) meets 1
    ∷ (0 ∷ 1 ∷ 0 ∷ 0 ∷ 17 ∷ []) meets 1
    ∷ (0 ∷ 0 ∷ 1 ∷ 15 ∷ 5 ∷ 5 ∷ 7 ∷ 4 ∷ 0 ∷ []) meets 0
    ∷ (0 ∷ 0 ∷ 65 ∷ []) meets 1
    ∷ (0 ∷ 0 ∷ 1 ∷ 16 ∷ []) meets 1
    ∷ (0 ∷ 0 ∷ 1 ∷ 15 ∷ 5 ∷ 4 ∷ []) meets 1
    ∷ (0 ∷ 0 ∷ 1 ∷ 15 ∷ 5 ∷ 5 ∷ 8 ∷ []) meets 1
    ∷ (0 ∷ 0 ∷ 1 ∷ 15 ∷ 5 ∷ 5 ∷ 7 ∷ 5 ∷ []) meets 1
    ∷ (0 ∷ 0 ∷ 0 ∷ 1 ∷ 2 ∷ 15 ∷ 1 ∷ 0 ∷ 0 ∷ 97 ∷ 1 ∷ 4 ∷ 1 ∷ 1 ∷ 1 ∷ 1 ∷ 16 ∷ 16 ∷ 9 ∷ []) meets 0
    ∷ (0 ∷ 0 ∷ 0 ∷ 1 ∷ 3 ∷ []) meets 1
    ∷ (0 ∷ 0 ∷ 0 ∷ 1 ∷ 2 ∷ 0 ∷ 33 ∷ []) meets 1
    ∷ (0 ∷ 0 ∷ 0 ∷ 1 ∷ 2 ∷ 0 ∷ 1 ∷ 3 ∷ []) meets 1
    ∷ (0 ∷ 0 ∷ 0 ∷ 1 ∷ 2 ∷ 0 ∷ 1 ∷ 1 ∷ 0x80 ∷ 2 ∷ []) meets 1
    ∷ (0 ∷ 0 ∷ 0 ∷ 1 ∷ 2 ∷ 0 ∷ 1 ∷ 2 ∷ 0x80 ∷ 2 ∷ []) meets 1
    ∷ (0 ∷ 0 ∷ 0 ∷ 1 ∷ 2 ∷ 0 ∷ 1 ∷ 0 ∷ 4 ∷ []) meets 1
    ∷ (0 ∷ 0 ∷ 0 ∷ 1 ∷ 2 ∷ 0 ∷ 1 ∷ 0 ∷ 1 ∷ 0x80 ∷ 2 ∷ []) meets 1
    ∷ (0 ∷ 0 ∷ 0 ∷ 1 ∷ 2 ∷ 0 ∷ 0 ∷ 2 ∷ []) meets 1
    ∷ (0 ∷ 0 ∷ 0 ∷ 1 ∷ 2 ∷ 0 ∷ 0 ∷ 0 ∷ 5 ∷ []) meets 1
    ∷ (0 ∷ 0 ∷ 0 ∷ 1 ∷ 2 ∷ 0 ∷ 0 ∷ 0 ∷ 0 ∷ 17 ∷ []) meets 1
    ∷ (0 ∷ 0 ∷ 0 ∷ 1 ∷ 2 ∷ 0 ∷ 0 ∷ 0 ∷ 0 ∷ 0 ∷ 17 ∷ []) meets 1
    ∷ []

-- a map with every kind of entry, part and binding: a class; two modes; a rule; a mapping, a prefix and a prefix with step
abbrev pub a_map : List ℕ
a_map =
    1 ∷ 1 ∷ 5 ∷ 6
    ∷ 2 ∷ 1 ∷ 8 ∷ 2 ∷ 9 ∷ 10 ∷ 0 ∷ 0 ∷ 0 ∷ 3
    ∷ 1 ∷ 3 ∷ 4 ∷ 5 ∷ 6 ∷ 2
    ∷ 3
    ∷ 0 ∷ 1 ∷ 2 ∷ 0 ∷ 0 ∷ 97 ∷ 1 ∷ 2 ∷ 1 ∷ 1 ∷ 1 ∷ 2 ∷ 11 ∷ 12 ∷ 3 ∷ 5 ∷ 13
    ∷ 1 ∷ 0 ∷ 2 ∷ 2 ∷ 1 ∷ 2 ∷ 0 ∷ 3
    ∷ 2 ∷ 2 ∷ 1 ∷ 0 ∷ 0 ∷ 0xE1 ∷ 0x07 ∷ 0 ∷ 0 ∷ 0 ∷ 0 ∷ 0 ∷ []

-- the calls that it stands for, each number at its place
abbrev pub its_calls : List Call
its_calls =
    Open (record {
      classes = class 1 5 6 ∷ [];
      modes = record { enter = 8 ∷ []; unmapped = 9 ∷ 10 ∷ []; next = none } ∷ entry [] [] 2 ∷ [];
      rules = rule 3 4 5 6 2 ∷ [];
    })
    ∷ Map 1 (once (Key 97) ∷ part (Min 2) (Class 1) ∷ []) (record { flag = true; actions = 11 ∷ 12 ∷ []; next = some 2; fallthrough = some 4; mark = some 13 })
    ∷ Prefix 0 (part (Max 1) Any ∷ once Fallthrough ∷ []) none
    ∷ Prefix 2 (one (Key 993)) (some (record { flag = false; actions = []; next = none; fallthrough = none; mark = none }))
    ∷ []

-- "65535"
abbrev pub the_largest : List ℕ
the_largest = 0x36 ∷ 0x35 ∷ 0x35 ∷ 0x33 ∷ 0x35 ∷ []

-- The machine that a file gives is the one that its calls leave, and its file is this one; lines have all five digits, or one,
-- as a typed 0 has
pub files_and_text_hold : (map (λ x. refusal_of (read_map x.bytes)) files_at_their_limits ≡ map (λ x. x.met) files_at_their_limits)
    × (read_map a_map ≡ accept (leaves graph_kind (fresh graph_kind no_tables) its_calls))
    × (file_of graph_kind (leaves graph_kind (fresh graph_kind no_tables) its_calls) ≡ a_map)
    × (lines_of (pair 65535 65535 true 65535 ∷ pair 9 10 true 0 ∷ pair 8 0 true 0 ∷ []) ≡ the_largest ++ 0x20 ∷ the_largest ++ 0x20 ∷ the_largest ++ 0x0A ∷ 0x39 ∷ 0x20 ∷ 0x31 ∷ 0x30 ∷ 0x20 ∷ 0x30 ∷ 0x0A ∷ 0x38 ∷ 0x20 ∷ 0x30 ∷ 0x20 ∷ 0x30 ∷ 0x0A ∷ [])
unfolding open-Basics open-Values open-Tables open-Graph open-KeyLoop open-Calls open-Numbers open-MapFile open-Run open-Writing
files_and_text_hold = (refl, refl, refl, refl)

-- 450 mappings of 32 parts, each part of 5 bytes, take more than 65,536 bytes, and are written where so many are lent
pub long_file_holds : refusal_of (written no_tables (replicate 450 (Maps 0 (replicate 32 (once (Key 65535))) (does 1))) 100000) ≡ 0
unfolding open-Basics open-Tables open-Numbers open-Writing
long_file_holds = refl

-- input of at most 65,536 bytes is played; longer input gives the line "refused 9"
pub input_holds : (input : List ℕ) → (length input ≤ 65536 → keyplay input ≡ text_of (play_input input))
    × (65536 < length input → keyplay input ≡ 0x72 ∷ 0x65 ∷ 0x66 ∷ 0x75 ∷ 0x73 ∷ 0x65 ∷ 0x64 ∷ 0x20 ∷ 0x39 ∷ 0x0A ∷ [])
unfolding keyplay text_of refusal decimal
input_holds input =
    by_cases (leb (length input) most_input)
    (λ e. (λ h. rw e, λ h. absurd (omega (arith, leb→le (length input) most_input (T-is e)))))
    (λ e. (λ h. no_way (sym e ∙ is_T (leb (length input) most_input) (le→leb (length input) most_input h)), λ h. rw e))
