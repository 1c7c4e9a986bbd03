-- Document 01, "List reader": a machine that holds only the accepted mappings, in order, and a place. Its openings, its
-- searches and its fallthrough stand here; all else is the key loop.
use Rattle.std.specs.Prelude.{ℕ, Bool, true, false, ◌&&◌, ◌||◌, List, [], ◌∷◌, ◌++◌, map, leb, ltb, eqb, length, if◌then◌else◌}
use Rattle.std.proofs.Math.Option.{Option, none, some}
use Rattle.rules.specs.Basics.{Result, accept, refuse, unless, every, some_of, is_there, or_else}
use Rattle.rules.specs.Values.{most_nodes, Event, Key, Class, Any, Fallthrough, same_event, Repeat, Once, Min, Max, Part, Step, Binding, Maps, Prefixes}
use Rattle.rules.specs.Tables.{ClassEntry}
use Rattle.rules.specs.Graph.{events_of}
use Rattle.rules.specs.KeyLoop.{InputResult, ClearTrail, NeedMore, Unmapped, RunStep, Turn, Navigator}
use Rattle.rules.specs.Calls.{Kind, Call, Open, Map, Prefix, Press, Pop, Repeats, Reset, Change}

-- an accepted mapping with a non-empty path
pub record Mapping : Type 0 where
  pub mode : ℕ
  pub path : List Event
  pub step : Step

-- a place (mode m, event list p)
pub record Place : Type 0 where
  pub mode : ℕ
  pub path : List Event

abbrev pub place : ℕ → List Event → Place
place m p = record { mode = m; path = p }

unfoldable pub same_path : List Event → List Event → Bool
same_path [] [] = true
same_path [] (e ∷ q) = false
same_path (d ∷ p) [] = false
same_path (d ∷ p) (e ∷ q) = same_event d e && same_path p q

unfoldable pub same_place : Place → Place → Bool
same_place a b = eqb a.mode b.mode && same_path a.path b.path

-- ---- openings

-- the non-empty starts of a path
unfoldable pub starts : List Event → List (List Event)
starts [] = []
starts (e ∷ p) = (e ∷ []) ∷ map (λ q. e ∷ q) (starts p)

-- a mapping's openings: each start of its path but the empty one, with the mode
unfoldable pub openings_of : Mapping → List Place
openings_of x = map (place x.mode) (starts x.path)

unfoldable pub is_among : Place → List Place → Bool
is_among a bs = some_of (same_place a) bs

unfoldable pub note : List Place → List Place → List Place
note [] known = known
note (a ∷ as') known = note as' (if is_among a known then known else a ∷ known)

unfoldable pub note_all : List Mapping → List Place → List Place
note_all [] known = known
note_all (x ∷ xs) known = note_all xs (note (openings_of x) known)

-- the distinct openings of all modes
unfoldable pub openings : List Mapping → List Place
openings xs = note_all xs []

-- p is a start of q that is not the whole of it
unfoldable pub is_proper_start : List Event → List Event → Bool
is_proper_start p [] = false
is_proper_start [] (e ∷ q) = true
is_proper_start (d ∷ p) (e ∷ q) = same_event d e && is_proper_start p q

-- a longer opening begins so
unfoldable pub goes_on : List Mapping → Place → Bool
goes_on xs a = some_of (λ b. eqb a.mode b.mode && is_proper_start a.path b.path) (openings xs)

-- ---- mappings at exactly a place

-- the last of what the mappings give
unfoldable pub last_of : {A : Type 0} → (Mapping → Option A) → List Mapping → Option A
last_of f [] = none
last_of f (x ∷ xs) = or_else (last_of f xs) (f x)

unfoldable pub exactly_at : Place → Mapping → Bool
exactly_at a x = same_place a (place x.mode x.path)

-- the step of the last mapping with exactly that path
unfoldable pub step_at : List Mapping → Place → Option Step
step_at xs a = last_of (λ x. if exactly_at a x then some x.step else none) xs

-- the fallthrough mode of the last mapping at exactly that path whose step names one
unfoldable pub fall_at : List Mapping → Place → Option ℕ
fall_at xs a = last_of (λ x. if exactly_at a x then x.step.fallthrough else none) xs

-- ---- a search, which is one round

-- p then e
abbrev pub further : Place → Event → Place
further a e = place a.mode (a.path ++ (e ∷ []))

-- the first event that leads from the place to an opening
unfoldable pub first_opening : List Mapping → Place → List Event → Option Event
first_opening xs a [] = none
first_opening xs a (e ∷ es) = if is_among (further a e) (openings xs) then some e else first_opening xs a es

-- what the step at the place moved to comes to: none, unflagged, flagged
unfoldable pub meaning : List Mapping → Place → Option Step → InputResult
meaning xs a none = NeedMore
meaning xs a (some s) =
    if s.flag then (if goes_on xs a || is_there (fall_at xs a) then NeedMore else Unmapped) else RunStep s

unfoldable pub move_to : List Mapping → Event → Place → Turn Place
move_to xs e a = record { event = some e; place = a; result = meaning xs a (step_at xs a) }

-- there is no e: to the root of the fallthrough mode, if one is named, and else unmapped
unfoldable pub fall_from : Place → Option ℕ → Turn Place
fall_from a none = record { event = none; place = a; result = Unmapped }
fall_from a (some f) = record { event = none; place = place f []; result = ClearTrail }

unfoldable pub searched : List Mapping → Place → Option Event → Turn Place
searched xs a (some e) = move_to xs e (further a e)
searched xs a none = fall_from a (fall_at xs a)

unfoldable pub list_navigator : List Mapping → Navigator Place
list_navigator xs = record {
  turn = λ cs a k. searched xs a (first_opening xs a (events_of cs k));
  root = λ m. place m [];
  mode_of = λ a. a.mode;
}

-- ---- mapping

unfoldable pub mapping_of : ℕ → List Part → Step → Mapping
mapping_of mode ps s = record { mode = mode; path = map (λ p. p.event) ps; step = s }

-- an empty path changes nothing; else 2 where all modes together would have more than 1,024 distinct openings
unfoldable pub map_list : ℕ → List Part → Step → List Mapping → Result (List Mapping)
map_list mode [] s xs = accept xs
map_list mode (p ∷ ps) s xs =
    let grown = xs ++ (mapping_of mode (p ∷ ps) s ∷ []) in
    unless (leb (length (openings grown)) most_nodes) 2 (accept grown)

-- It has no prefixes: none stands among the calls that it is given
abbrev pub list_kind : Kind
list_kind = record { Bindings = List Mapping; Place = Place; none_yet = []; map_in = map_list; prefix_in = λ mode ps s xs. accept xs; navigator = list_navigator }

-- ---- the calls of demand 3: each part of a mapping is a key, a class or any-key taken once, and there is no prefix; so too among
-- the bindings of a change

unfoldable pub plain_part : Repeat → Event → Bool
plain_part Once (Key k) = true
plain_part Once (Class c) = true
plain_part Once Any = true
plain_part Once Fallthrough = false
plain_part (Min n) e = false
plain_part (Max n) e = false

unfoldable pub plain_binding : Binding → Bool
plain_binding (Maps mode path s) = every (λ p. plain_part p.repeat p.event) path
plain_binding (Prefixes mode path s) = false

unfoldable pub plain : Call → Bool
plain (Open t) = true
plain (Map mode path s) = plain_binding (Maps mode path s)
plain (Prefix mode path s) = false
plain (Press i) = true
plain Pop = true
plain (Repeats q over) = true
plain Reset = true
plain (Change t xs) = every plain_binding xs

-- ---- everything above, to be opened by one name where a run is computed
unfoldable pub open-ListReader : Unit {0}
unfolding same_path same_place starts openings_of is_among note note_all openings is_proper_start goes_on last_of exactly_at step_at fall_at first_opening meaning move_to fall_from searched list_navigator mapping_of map_list plain_part plain_binding plain
open-ListReader = tt
