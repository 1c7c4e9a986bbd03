-- Following in one pass, as the links of an index lead: which words it goes through, and what it remembers of them. That is what
-- following would take if the graph had no edges but those gone through.
use Rattle.std.specs.Prelude.{ℕ, zero, suc, ◌+◌, ◌*◌, ◌/◌, ◌%◌, ◌≡◌, Bool, List, [], ◌∷◌, ◌++◌, map, ltb, leb, eqb, length, get_or, if◌then◌else◌}
use Rattle.std.specs.Int.{bit_at}
use Rattle.std.specs.List.{filter}
use Rattle.rules.specs.Values as v
use Rattle.rules.specs.Tables.{ClassEntry}
use Rattle.rules.specs.Graph as g
use Rattle.rules.specs.OnePass as o
use Rattle.keyvalues.specs.View.{event_code, graph_by}
use Rattle.keyparts.specs.declared.edge.EdgeWord.{EdgeWord}
use Rattle.keyparts.specs.declared.follow.Ranked.{Ranked}
use Rattle.keyparts.specs.View.{key_in, edge_of, no_edge, chain_of}

-- ---- the words that are gone through

-- the words that the links lead to from place i on, in at most so many steps; a place with no edge ends the chain
unfoldable pub words_on : ℕ → List EdgeWord → List ℕ → ℕ → List EdgeWord
words_on zero ws ls i = []
words_on (suc k) ws ls i = if ltb i (length ws) then get_or ws i no_edge ∷ words_on k ws ls (get_or ls i 0) else []

-- what the edges of one node have alike that are gone through together: the key, and of all events that are no key one number
unfoldable pub group_of : ℕ → ℕ
group_of key = if ltb (key / 65536) 65536 then key else 4294967296 + key % 65536

unfoldable pub in_group : ℕ → EdgeWord → Bool
in_group key w = eqb (group_of (key_in w)) (group_of key)

-- those of n's edges in the event's group that its chain leads to
unfoldable pub through : List EdgeWord → List ℕ → ℕ → v.Event → List EdgeWord
through ws ls n ev =
    let key = n + event_code ev * 65536 in
    filter (in_group key) (words_on 2048 ws ls (get_or ls (chain_of key) 0))

-- ---- what is remembered

-- the set has the bits of all classes that are the key's: one whose bit is not there stands behind all that the key matches
abbrev pub Among : List ClassEntry → ℕ → ℕ → Type 0
Among cs k set = (c : ℕ) → bit_at set (c % 64) ≡ 0 → o.rank cs k (v.Class c) ≡ length cs + 3

-- following in a graph with only the edges of these words
unfoldable pub follow_in : List ClassEntry → List EdgeWord → ℕ → ℕ → g.Follow
follow_in cs ws n k = g.follow_edge cs (graph_by [] (map edge_of ws)) n k

-- the edge with a rank and a word, where the class table has m entries
unfoldable pub found_of : ℕ → ℕ → ℕ → EdgeWord → g.Follow
found_of m k r w =
    if eqb r 0
    then g.Successor (v.Key k) (edge_of w).to
    else
    (if leb r m
    then g.Successor (v.Class (key_in w / 65536 % 65536)) (edge_of w).to
    else
    (if eqb r (m + 1) then g.Successor v.Any (edge_of w).to else (if eqb r (m + 2) then g.FallsTo (edge_of w).to else g.NoSuccessor)))

-- no edge of the event's group stands before this
abbrev pub first_rank : v.Event → ℕ
first_rank (v.Key k) = 0
first_rank (v.Class c) = 1
first_rank v.Any = 1
first_rank v.Fallthrough = 1

-- e has the rank of its word's edge
abbrev pub Ranks : List ClassEntry → ℕ → Ranked → Type 0
Ranks cs k e = e.rank ≡ o.rank cs k (edge_of e.word).event

-- b is the edge that following takes in a graph with only the edges of the words ws
pub record Remembers (cs : List ClassEntry) (n k : ℕ) (ws : List EdgeWord) (b : Ranked) : Type 0 where
  pub rank : b.rank ≡ o.rank_of cs k (follow_in cs ws n k)
  pub edge : found_of (length cs) k b.rank b.word ≡ follow_in cs ws n k

-- b is what is remembered before any edge
pub record NoneYet (cs : List ClassEntry) (b : Ranked) : Type 0 where
  pub none : (n k : ℕ) → Remembers cs n k [] b

-- b is what is remembered after the edges of the words es, where start was remembered after any others
pub record After (cs : List ClassEntry) (n k : ℕ) (start : Ranked) (es : List EdgeWord) (b : Ranked) : Type 0 where
  pub best : (ws : List EdgeWord) → Remembers cs n k ws start → Remembers cs n k (ws ++ es) b
