-- Document 02, request (iii): going through edges one time, an edge after another, with the best edge so far remembered.
-- `proofs/OnePass` has the theorem that this is following.
use Rattle.std.specs.Prelude.{ℕ, suc, ◌+◌, ◌&&◌, List, [], ◌∷◌, ltb, eqb, length, if◌then◌else◌}
use Rattle.rules.specs.Values.{Event, Key, Class, Any, Fallthrough, same_event}
use Rattle.rules.specs.Tables.{ClassEntry, holds_key}
use Rattle.rules.specs.Graph.{Edge, Follow, Successor, FallsTo, NoSuccessor}

-- ---- where an event stands for a key, from the last to the first: the lower, the earlier it is taken

-- Fallthrough, and then what the key does not match
unfoldable pub fall_rank : Event → ℕ
fall_rank ev = if same_event ev Fallthrough then 0 else 1

-- Any before these
unfoldable pub any_rank : Event → ℕ
any_rank ev = if same_event ev Any then 0 else suc (fall_rank ev)

-- the entries of the class table before these, in their order: the class of an entry that holds the key
unfoldable pub class_rank : List ClassEntry → ℕ → Event → ℕ
class_rank [] k ev = any_rank ev
class_rank (c ∷ cs) k ev = if holds_key c k && same_event ev (Class c.class) then 0 else suc (class_rank cs k ev)

-- Key before these
unfoldable pub rank : List ClassEntry → ℕ → Event → ℕ
rank cs k ev = if same_event ev (Key k) then 0 else suc (class_rank cs k ev)

-- ---- what is remembered

-- where the edge that is remembered stands; with none yet that is behind all that the key matches
unfoldable pub rank_of : List ClassEntry → ℕ → Follow → ℕ
rank_of cs k (Successor ev to) = rank cs k ev
rank_of cs k (FallsTo to) = rank cs k Fallthrough
rank_of cs k NoSuccessor = 3 + length cs

-- what following says of the edge that it takes
unfoldable pub along : Event → ℕ → Follow
along (Key k) to = Successor (Key k) to
along (Class c) to = Successor (Class c) to
along Any to = Successor Any to
along Fallthrough to = FallsTo to

-- what is remembered after one more edge: an edge of the node that stands before the best so far, and else that one
unfoldable pub better : List ClassEntry → ℕ → ℕ → Follow → Edge → Follow
better cs n k best e =
    if eqb e.from n && ltb (rank cs k e.event) (rank_of cs k best) then along e.event e.to else best

-- what is remembered after all of them
unfoldable pub best_of : List ClassEntry → ℕ → ℕ → Follow → List Edge → Follow
best_of cs n k best [] = best
best_of cs n k best (e ∷ es) = best_of cs n k (better cs n k best e) es

-- ---- everything above, to be opened by one name where a pass is computed
unfoldable pub open-OnePass : Unit {0}
unfolding fall_rank any_rank class_rank rank rank_of along better best_of
open-OnePass = tt
