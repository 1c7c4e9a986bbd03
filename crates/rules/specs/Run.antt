-- Document 01, "Map file and run": the run on map, keys and output, and the program `keyplay`.
use Rattle.std.specs.Prelude.{ℕ, zero, suc, ◌+◌, ◌-◌, ◌*◌, ◌/◌, ◌%◌, min, List, [], ◌∷◌, ◌++◌, leb, ltb, length, take, drop, replicate, if◌then◌else◌}
use Rattle.rules.specs.Basics.{Result, accept, refuse, ◌>>=◌, unless}
use Rattle.rules.specs.Values.{largest, Context, Pair}
use Rattle.rules.specs.KeyLoop.{State, at, with_queue}
use Rattle.rules.specs.Calls.{Machine, graph_kind, key_call, with_state}
use Rattle.rules.specs.Numbers.{number, bytes_of}
use Rattle.rules.specs.MapFile.{read_map}

-- ---- limits

-- the bytes of the output that a run uses at most
abbrev pub most_output : ℕ
most_output = 65536

-- the bytes of standard input that `keyplay` takes at most, and the budget that it gives each key
abbrev pub most_input : ℕ
most_input = 65536

abbrev pub play_budget : ℕ
play_budget = 1000

-- ---- the run

-- the numbers that bytes hold to their end; each takes a byte at least, so their count is at most the bytes'
unfoldable pub numbers_in : ℕ → List ℕ → Result (List ℕ)
numbers_in zero [] = accept []
numbers_in zero (b ∷ bs) = refuse 9
numbers_in (suc most) [] = accept []
numbers_in (suc most) (b ∷ bs) = do
  r ← number (b ∷ bs)
  ks ← numbers_in most r.1
  accept (r.0 ∷ ks)

unfoldable pub read_keys : List ℕ → Result (List ℕ)
read_keys bs = numbers_in (length bs) bs

-- a count as a number: 0 for none, and count + 1 for one that was typed (document 02, request (vii))
unfoldable pub count_number : Context → ℕ
count_number c = if c.typed then c.count + 1 else 0

-- the number of the largest count
abbrev pub most_count : ℕ
most_count = largest + 1

-- the context of such a number and a mark
unfoldable pub numbered : (number mark : ℕ) → Context
numbered number mark = record { count = number - 1; typed = ltb 0 number; mark = mark }

-- each pair as three numbers
unfoldable pub pair_bytes : List Pair → List ℕ
pair_bytes [] = []
pair_bytes (p ∷ ps) = bytes_of p.action ++ bytes_of (count_number p.context) ++ bytes_of p.context.mark ++ pair_bytes ps

-- after a key its pairs are popped until none is left
abbrev pub emptied : Machine graph_kind → State ℕ → Machine graph_kind
emptied s m = with_state graph_kind s (at m.place (with_queue [] m.shared))

-- each key with the same budget anew; 10 the pairs so far do not fit, met before the next key
unfoldable pub play_keys : (budget room : ℕ) → List ℕ → Machine graph_kind → List Pair → Result (List Pair)
play_keys budget room [] s out = accept out
play_keys budget room (k ∷ ks) s out = do
  m ← (key_call graph_kind (record { key = k; budget = budget }) s).result
  unless (leb (length (pair_bytes (out ++ m.shared.queue))) room) 10
      (play_keys budget room ks (emptied s m) (out ++ m.shared.queue))

-- first the whole map is read, then all keys, and only then one is tried. `lent` is the output's length
unfoldable pub run : (map keys : List ℕ) (budget lent : ℕ) → Result (List Pair)
run map keys budget lent = do
  s ← read_map map
  ks ← read_keys keys
  play_keys budget (min lent most_output) ks s []

-- what C gets of a value that is written as bytes to the output that it lent, or of a refusal
module _ {A : Type 0} (bytes : A → List ℕ) where
  -- one number: length × 32 + refusal
  unfoldable pub code_of : Result A → ℕ
  code_of (accept a) = length (bytes a) * 32
  code_of (refuse n) = n

  -- the output: accepted, the bytes, and what lies past them stays; refused, all zeros
  unfoldable pub output_of : List ℕ → Result A → List ℕ
  output_of lent (accept a) = bytes a ++ drop (length (bytes a)) lent
  output_of lent (refuse n) = replicate (length lent) 0

  -- both
  abbrev pub answered : List ℕ → Result A → ℕ × List ℕ
  answered lent r = (code_of r, output_of lent r)

-- ---- `keyplay`

-- the map's length, the map, then keys: 9 if the input is shorter
unfoldable pub play_input : List ℕ → Result (List Pair)
play_input input = do
  r ← number input
  unless (leb r.0 (length r.1)) 9 (run (take r.0 r.1) (drop r.0 r.1) play_budget most_output)

-- a number in decimal, of at most as many digits as `most`
unfoldable pub decimal : ℕ → ℕ → List ℕ
decimal zero n = []
decimal (suc most) n = (if ltb n 10 then [] else decimal most (n / 10)) ++ ((0x30 + n % 10) ∷ [])

-- a count in decimal, and a dash for none
unfoldable pub count_text : Context → List ℕ
count_text c = if c.typed then decimal 5 c.count else 0x2D ∷ []

-- `action count mark` of a pair, and a line's end
unfoldable pub line_of : Pair → List ℕ
line_of p = decimal 5 p.action ++ (0x20 ∷ count_text p.context) ++ (0x20 ∷ decimal 5 p.context.mark) ++ (0x0A ∷ [])

unfoldable pub lines_of : List Pair → List ℕ
lines_of [] = []
lines_of (p ∷ ps) = line_of p ++ lines_of ps

-- the line "action count mark"
unfoldable pub heading : List ℕ
heading = 0x61 ∷ 0x63 ∷ 0x74 ∷ 0x69 ∷ 0x6F ∷ 0x6E ∷ 0x20 ∷ 0x63 ∷ 0x6F ∷ 0x75 ∷ 0x6E ∷ 0x74 ∷ 0x20 ∷ 0x6D ∷ 0x61 ∷ 0x72 ∷ 0x6B ∷ 0x0A ∷ []

-- the line "refused N"
unfoldable pub refusal : ℕ → List ℕ
refusal n = 0x72 ∷ 0x65 ∷ 0x66 ∷ 0x75 ∷ 0x73 ∷ 0x65 ∷ 0x64 ∷ 0x20 ∷ (decimal 5 n ++ (0x0A ∷ []))

-- the heading and a line for each pair, or only the refusal
unfoldable pub text_of : Result (List Pair) → List ℕ
text_of (accept ps) = heading ++ lines_of ps
text_of (refuse n) = refusal n

-- longer input is refused with 9
unfoldable pub keyplay : List ℕ → List ℕ
keyplay input = text_of (unless (leb (length input) most_input) 9 (play_input input))

-- ---- everything above, to be opened by one name where a run is computed
unfoldable pub open-Run : Unit {0}
unfolding numbers_in read_keys count_number numbered pair_bytes play_keys run code_of output_of play_input decimal count_text line_of lines_of heading refusal text_of keyplay
open-Run = tt
