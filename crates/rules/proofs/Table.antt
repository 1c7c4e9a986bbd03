-- Document 01, "Edges tried in the table": E1 to E10 as runs of the rules, and one theorem. It holds by computing each row.
-- A row is a list of calls on the fresh graph machine with no tables, each beside the answer that it must get.
use Prim.Native.Nat.{ℕ}
use mathlib.Core.Path.{◌≡◌, refl}
use mathlib.Core.Bool.{true, false}
use mathlib.Core.Option.{Option, none, some}
use mathlib.Core.List.{List, [], ◌∷◌, ◌++◌, map}
use lib.ListN.{replicate}
use Rattle.rules.specs.Basics.{open-Basics}
use Rattle.rules.specs.Values.{Event, Key, Class, Fallthrough, Repeat, Once, Min, Part, Step, pair, open-Values}
use Rattle.rules.specs.Tables.{Tables, no_tables, open-Tables}
use Rattle.rules.specs.Graph.{NodeAction, Empty, Root, Holds, get_node, open-Graph}
use Rattle.rules.specs.KeyLoop.{open-KeyLoop}
use Rattle.rules.specs.Calls.{Call, Open, Map, Prefix, Press, Pop, Repeats, Answer, Accepted, Refused, Popped, Nothing, Pressed, PressRefused, Machine, fresh, call, graph_kind, open-Calls}
use Rattle.rules.specs.Numbers.{open-Numbers}
use Rattle.rules.specs.MapFile.{open-MapFile}
use Rattle.rules.specs.Run.{keyplay, open-Run}

-- ---- the words of a row

infix 70 ◌⇒◌
-- a call and the answer that it must get
pub record Tried : Type 0 where
  pub asked : Call
  pub answered : Answer

abbrev pub ◌⇒◌ : Call → Answer → Tried
◌⇒◌ c x = record { asked = c; answered = x }

-- a part of a path, and one that is taken once
abbrev pub part : Repeat → Event → Part
part x e = record { repeat = x; event = e }

abbrev pub once : Event → Part
once e = part Once e

-- a path of one part, of two and of three
abbrev pub one : Event → List Part
one e = once e ∷ []

abbrev pub two : Event → Event → List Part
two e f = once e ∷ once f ∷ []

abbrev pub three : Event → Event → Event → List Part
three e f g = once e ∷ once f ∷ once g ∷ []

-- a step with one action
abbrev pub does : ℕ → Step
does x = record { flag = false; actions = x ∷ []; next = none; fallthrough = none; mark = none }

-- a key with a budget, and with one that is large enough
abbrev pub key_within : ℕ → ℕ → Call
key_within budget x = Press (record { key = x; budget = budget })

abbrev pub key : ℕ → Call
key x = key_within 1000 x

abbrev pub rounds : ℕ → Answer
rounds n = Pressed n

-- a pair without a count, and one with a count that was typed
abbrev pub gives : ℕ → Option ℕ → ℕ → Answer
gives x none mark = Popped (pair x 0 false mark)
gives x (some count) mark = Popped (pair x count true mark)

-- keys one after another, of which each takes a round
abbrev pub in_a_row : List ℕ → List Tried
in_a_row ks = map (λ x. key x ⇒ rounds 1) ks

-- keys by their letters
abbrev pub a : ℕ
a = 97

abbrev pub b : ℕ
b = 98

abbrev pub j : ℕ
j = 106

abbrev pub k : ℕ
k = 107

abbrev pub q : ℕ
q = 113

abbrev pub r : ℕ
r = 114

abbrev pub z : ℕ
z = 122

-- class 0 holds the keys of the digits
abbrev pub digits : Tables
digits = record { classes = record { class = 0; low = 48; high = 57 } ∷ []; modes = []; rules = [] }

-- every action of mode 0 is tracked (status 4) in sequence 0
abbrev pub tracking : Tables
tracking = record { classes = []; modes = []; rules = record { mode = 0; low = 0; high = 65535; sequence = 0; status = 4 } ∷ [] }

-- A row: the calls with their answers, and the step, if any, that the root of mode 0 then holds
pub record Row : Type 0 where
  pub tries : List Tried
  pub root : Option Step

abbrev pub row : List Tried → Row
row ts = record { tries = ts; root = none }

-- ---- the rows

-- E1: the run of `keyplay`, as calls
abbrev pub E1 : Row
E1 = row (
    Open digits ⇒ Accepted
    ∷ Prefix 0 (one (Class 0)) none ⇒ Accepted
    ∷ Map 0 (one (Key r)) (does 7) ⇒ Accepted
    ∷ key 52 ⇒ rounds 1
    ∷ Pop ⇒ Nothing
    ∷ key 50 ⇒ rounds 1
    ∷ Pop ⇒ Nothing
    ∷ key r ⇒ rounds 1
    ∷ Pop ⇒ gives 7 (some 42) 0
    ∷ Pop ⇒ Nothing
    ∷ key z ⇒ rounds 1
    ∷ Pop ⇒ gives 0 none 0
    ∷ Pop ⇒ Nothing
    ∷ [])

-- mappings jj and kk
abbrev pub doubles : List Tried
doubles = Map 0 (two (Key j) (Key j)) (does 1) ⇒ Accepted ∷ Map 0 (two (Key k) (Key k)) (does 2) ⇒ Accepted ∷ []

-- E2: keys j k k give pair 0, then kk's, by 1, 2 and 1 rounds
abbrev pub E2 : Row
E2 = row (
    doubles
    ++ (key j ⇒ rounds 1
    ∷ Pop ⇒ Nothing
    ∷ key k ⇒ rounds 2
    ∷ Pop ⇒ gives 0 none 0
    ∷ Pop ⇒ Nothing
    ∷ key k ⇒ rounds 1
    ∷ Pop ⇒ gives 2 none 0
    ∷ Pop ⇒ Nothing
    ∷ []))

-- E3: the second key with budget 1 is refused with 8, and with 2 it is accepted
abbrev pub E3 : Row
E3 = row (doubles ++ (key j ⇒ rounds 1 ∷ key_within 1 k ⇒ PressRefused 8 1 ∷ key_within 2 k ⇒ rounds 2 ∷ []))

-- E4: mapping Min(0) a, key q on a fresh queue: budget 256 gives 8, and 257 gives 5
abbrev pub E4 : Row
E4 = row (
    Map 0 (part (Min 0) (Key a) ∷ []) (does 1) ⇒ Accepted
    ∷ key_within 256 q ⇒ PressRefused 8 256
    ∷ key_within 257 q ⇒ PressRefused 5 257
    ∷ Pop ⇒ Nothing
    ∷ [])

-- E5: 27 and 98 are mapped, and key 32,866 runs the steps of both, in 3 rounds
abbrev pub E5 : Row
E5 = row (
    Map 0 (one (Key 27)) (does 1) ⇒ Accepted
    ∷ Map 0 (one (Key b)) (does 2) ⇒ Accepted
    ∷ key 32866 ⇒ rounds 3
    ∷ Pop ⇒ gives 1 none 0
    ∷ Pop ⇒ gives 2 none 0
    ∷ Pop ⇒ Nothing
    ∷ [])

-- E6: a is mapped, then made a prefix without step: no pair comes of key a
abbrev pub E6 : Row
E6 = row (
    Map 0 (one (Key a)) (does 1) ⇒ Accepted
    ∷ Prefix 0 (one (Key a)) none ⇒ Accepted
    ∷ key a ⇒ rounds 1
    ∷ Pop ⇒ Nothing
    ∷ [])

-- E7: the prefix first and the mapping second: it is the root that has the step
abbrev pub E7 : Row
E7 = record {
  tries =
      Prefix 0 (one (Key a)) none ⇒ Accepted
      ∷ Map 0 (one (Key a)) (does 1) ⇒ Accepted
      ∷ key a ⇒ rounds 1
      ∷ Pop ⇒ gives 1 none 0
      ∷ [];
  root = some (does 1);
}

-- E8: a's step falls to mode 1; to map (a, Fallthrough) in mode 0 is 4 then
abbrev pub E8 : Row
E8 = row (
    Map 0 (one (Key a)) (record { flag = false; actions = 1 ∷ []; next = none; fallthrough = some 1; mark = none }) ⇒ Accepted
    ∷ Map 0 (two (Key a) Fallthrough) (does 2) ⇒ Refused 4
    ∷ [])

-- E9: repeat of an unused sequence gives no pair
abbrev pub E9 : Row
E9 = row (Repeats 3 none ⇒ Accepted ∷ Pop ⇒ Nothing ∷ [])

-- E10: 64 tracked pairs are accepted, one more is 6
abbrev pub E10 : Row
E10 = row (Open tracking ⇒ Accepted ∷ replicate 64 (key a ⇒ rounds 1) ++ (key a ⇒ PressRefused 6 1 ∷ []))

unfoldable pub table : List Row
table = E1 ∷ E2 ∷ E3 ∷ E4 ∷ E5 ∷ E6 ∷ E7 ∷ E8 ∷ E9 ∷ E10 ∷ []

-- ---- what the rules give

-- the calls with the answers that the rules give, each on the machine that the one before left; and the last machine
unfoldable pub try_all : Machine graph_kind → List Tried → List Tried × Machine graph_kind
try_all s [] = ([], s)
try_all s (t ∷ ts) =
    let x = call graph_kind s t.asked in
    let rest = try_all x.0 ts in
    (t.asked ⇒ x.1 ∷ rest.0, rest.1)

unfoldable pub step_held : NodeAction → Option Step
step_held Empty = none
step_held Root = none
step_held (Holds s) = some s

unfoldable pub outcome : Row → Row
outcome x =
    let end = try_all (fresh graph_kind no_tables) x.tries in
    record { tries = end.0; root = step_held (get_node end.1.bindings 0).action }

-- E1 on bytes: what `keyplay` is given, and the lines that it prints
abbrev pub e1_input : List ℕ
e1_input =
    0x19 ∷
    0x01 ∷ 0x00 ∷ 0x30 ∷ 0x39 ∷ 0x00 ∷ 0x00 ∷ 0x02 ∷ 0x01 ∷ 0x00 ∷ 0x01 ∷ 0x00 ∷ 0x01 ∷ 0x00 ∷
    0x00 ∷ 0x00 ∷ 0x01 ∷ 0x00 ∷ 0x00 ∷ 0x72 ∷ 0x00 ∷ 0x01 ∷ 0x07 ∷ 0x00 ∷ 0x00 ∷ 0x00 ∷
    0x34 ∷ 0x32 ∷ 0x72 ∷ 0x7A ∷ []

-- "action count mark", "7 42 0", "0 - 0"
abbrev pub e1_text : List ℕ
e1_text =
    0x61 ∷ 0x63 ∷ 0x74 ∷ 0x69 ∷ 0x6F ∷ 0x6E ∷ 0x20 ∷ 0x63 ∷ 0x6F ∷ 0x75 ∷ 0x6E ∷ 0x74 ∷ 0x20 ∷ 0x6D ∷ 0x61 ∷ 0x72 ∷ 0x6B ∷ 0x0A ∷
    0x37 ∷ 0x20 ∷ 0x34 ∷ 0x32 ∷ 0x20 ∷ 0x30 ∷ 0x0A ∷
    0x30 ∷ 0x20 ∷ 0x2D ∷ 0x20 ∷ 0x30 ∷ 0x0A ∷ []

-- The theorem: the rules give every row its answers, and E1's bytes their lines
pub table_holds : (map outcome table ≡ table) × (keyplay e1_input ≡ e1_text)
unfolding open-Basics open-Values open-Tables open-Graph open-KeyLoop open-Calls open-Numbers open-MapFile open-Run try_all step_held outcome table
table_holds = (refl, refl)
