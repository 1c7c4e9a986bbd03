-- Demand 3: the graph machine and the list reader give the same answers. A graph that plain mappings made is a tree: its nodes
-- are the mode roots and the list reader's openings, under the numbers that the order of the openings gives them. So adding
-- keeps the two the same (Adding), and a round takes them to the same place with the same result (Following). All else of a
-- call is done by the loop that both share, which sees a place only through its rounds (Simulation, Runs).
use mathlib.Core.Path.{◌≡◌}
use mathlib.Core.Bool.{not, ◌&&◌}
use mathlib.Core.List.{List}
use lib.Dec.{T}
use Rattle.rules.specs.Basics.{every}
use Rattle.rules.specs.Tables.{Tables, tables_valid}
use Rattle.rules.specs.Calls.{Call, fresh, history, leaves, graph_kind}
use Rattle.rules.specs.ListReader.{list_kind, plain}
use Rattle.rules.proofs.Represents.{SameBindings, SamePlace}
use Rattle.rules.proofs.Adding.{fresh_same, map_same}
use Rattle.rules.proofs.Following.{agree}
use Rattle.rules.proofs.Runs.{says_refused, Related, same_from_fresh, kept_from_fresh}

-- The calls are those of `plain` (PlainCalls): each part of a mapping is a key, a class or any-key taken once, and there is no
-- prefix; so too among the bindings of a change of map. All else is free: open and change at any time, values in and out of range,
-- paths of any length, refused calls among the others, and more mappings than the 1,024 that are kept. Each machine keeps its accepted
-- mappings, those with an empty path too, and both keep the same ones; so the list reader counts to 1,024 as the graph machine does,
-- and refuses with 11 where that one does.

-- The machines are `graph_kind` and `list_kind`: the graph represents the mappings, and the node has the place's number
related : Related graph_kind list_kind SameBindings SamePlace
related = record { fresh = fresh_same; follow = agree; maps = map_same }

-- the graph machine and the list reader, both fresh with tables that open accepts, give the same list of answers and
-- observable states to every list of plain calls
pub demand3 : (t : Tables) → T (tables_valid t) → (cs : List Call) → T (every plain cs)
    → history graph_kind (fresh graph_kind t) cs ≡ history list_kind (fresh list_kind t) cs
demand3 t valid cs only-plain = (same_from_fresh graph_kind list_kind SameBindings SamePlace related t valid cs only-plain).0

-- on such lists the two keep the same calls in the same order
pub same_calls_kept : (t : Tables) → T (tables_valid t) → (cs : List Call) → T (every plain cs)
    → (leaves graph_kind (fresh graph_kind t) cs).kept ≡ (leaves list_kind (fresh list_kind t) cs).kept
same_calls_kept t valid cs only-plain = kept_from_fresh graph_kind list_kind SameBindings SamePlace related t valid cs only-plain

-- on such lists no call, and no key, is refused with 3 (no edge left) or 4 (another mode)
pub never_3_or_4 : (t : Tables) → T (tables_valid t) → (cs : List Call) → T (every plain cs)
    → T (every (λ x. not (says_refused 3 x.0) && not (says_refused 4 x.0)) (history graph_kind (fresh graph_kind t) cs))
never_3_or_4 t valid cs only-plain = (same_from_fresh graph_kind list_kind SameBindings SamePlace related t valid cs only-plain).1
