-- What a graph's words and the declared types of this crate mean, in the values of the rules, and following by any links. Every
-- word decodes to something, and any links lead somewhere.
use Rattle.std.specs.Prelude
use Rattle.std.specs.Prelude.{Some, None, ℕ, zero, suc, ◌+◌, ◌*◌, ◌/◌, ◌%◌, ◌<◌, ◌≤◌, ◌≡◌, Bool, List, [], ◌∷◌, ◌++◌, map, ltb, eqb, length, take, set, get_or, if◌then◌else◌}
use Rattle.std.proofs.Math.Option.{Option, none, some}
use Rattle.rules.specs.Values as v
use Rattle.rules.specs.Tables.{ClassEntry}
use Rattle.rules.specs.Graph as g
use Rattle.keyvalues.specs.declared.event.EdgeEvent.{EdgeEvent}
use Rattle.keyvalues.specs.declared.node.NodeWords.{NodeWords}
use Rattle.keyvalues.specs.View.{event_of, event_at, event_code, node_in, graph_by}
use Rattle.keyparts.specs.declared.edge.EdgeWord.{EdgeWord}
use Rattle.keyparts.specs.declared.graph.Graph.{Graph}
use Rattle.keyparts.specs.declared.follow.FollowResult.{FollowResult}
use Rattle.keyparts.specs.declared.follow.FollowResult.TheVariants.{Successor, Fallthrough as Falls, NoSuccessor}

-- ---- the declared types

abbrev pub follow_of : FollowResult → g.Follow
follow_of (Successor ev to) = g.Successor (event_of ev) to
follow_of (Falls to) = g.FallsTo to
follow_of NoSuccessor = g.NoSuccessor

-- ---- a graph's words: one for each edge, two for each node

abbrev pub key_in : EdgeWord → ℕ
key_in w = w.word / 65536

unfoldable pub edge_of : EdgeWord → g.Edge
edge_of w = record { from = key_in w % 65536; event = event_at (key_in w / 65536); to = w.word % 65536 }

-- what a list of words has past its end
abbrev pub no_edge : EdgeWord
no_edge = record { word = 0 }

abbrev pub nodes_from : List NodeWords → ℕ → List g.Node
nodes_from ps n = map node_in (take n ps)

-- where there is no node
abbrev pub empty_words : NodeWords
empty_words = record { head = 0; acts = 0 }

-- the words of the edges that count, where there is room for 2,048
unfoldable pub edge_words : Graph → List EdgeWord
edge_words x = take 2048 (take x.counts.edges x.edges)

unfoldable pub graph_of : Graph → g.Graph
graph_of x = graph_by (nodes_from x.nodes x.counts.nodes) (map edge_of (edge_words x))

-- the event of a word's edge, if it has the code of one
abbrev pub event_in : EdgeWord → Option v.Event
event_in w = if ltb (key_in w / 65536) 131074 then some (edge_of w).event else none

abbrev pub maybe_event : Prelude.Option EdgeEvent → Option v.Event
maybe_event None = none
maybe_event (Some ev) = some (event_of ev)

-- ---- searches

-- the place of the first that passes the test, or how many there are
unfoldable pub first_place : {A : Type 0} → (A → Bool) → List A → ℕ
first_place p [] = 0
first_place p (x ∷ xs) = if p x then 0 else suc (first_place p xs)

unfoldable pub key_is : ℕ → EdgeWord → Bool
key_is key w = eqb (key_in w) key

-- the words after an edge's word went in for the first of its key, or else behind the last; 2,048 are all
unfoldable pub word_put : List EdgeWord → EdgeWord → List EdgeWord
word_put ws w =
    let i = first_place (key_is (key_in w)) ws in
    if ltb i (length ws) then set ws i w else (if ltb (length ws) 2048 then ws ++ (w ∷ []) else ws)

-- the end of the edge at place i
unfoldable pub end_of : List EdgeWord → ℕ → Option ℕ
end_of ws i = if ltb i (length ws) then some (edge_of (get_or ws i no_edge)).to else none

-- ---- an index of the edges: a link from each edge to the next of its chain, and then to the first edge of each chain

-- where the link to the first edge of a chain stands: the edges of one start and one key are on one chain, and so are those of one
-- start whose event is no key
unfoldable pub chain_of : ℕ → ℕ
chain_of key =
    if ltb (key / 65536) 65536 then 2048 + key * 1607379325 / 4194304 % 1024 else 3072 + key % 256

-- the place of the edge with the key, in at most so many steps from place i on; a place with no edge ends the chain
unfoldable pub place_on : ℕ → List EdgeWord → List ℕ → ℕ → ℕ → ℕ
place_on zero ws ls key i = length ws
place_on (suc k) ws ls key i =
    if ltb i (length ws)
    then (if key_is key (get_or ws i no_edge) then i else place_on k ws ls key (get_or ls i 0))
    else length ws

-- the place of the edge with the key, as the links lead to it, or the number of edges
unfoldable pub linked_place : List EdgeWord → List ℕ → ℕ → ℕ
linked_place ws ls key = place_on 2048 ws ls key (get_or ls (chain_of key) 0)

-- the end of n's edge for the event, if it stands at place i; n and the event may be such as no word has
unfoldable pub end_at : List EdgeWord → ℕ → v.Event → ℕ → Option ℕ
end_at ws n ev i =
    if ltb i (length ws)
    then (if g.is_edge n ev (edge_of (get_or ws i no_edge)) then some (edge_of (get_or ws i no_edge)).to else none)
    else none

-- the end of n's edge for the event, as the links lead to it
unfoldable pub linked_end : List EdgeWord → List ℕ → ℕ → v.Event → Option ℕ
linked_end ws ls n ev = end_at ws n ev (linked_place ws ls (n + event_code ev * 65536))

-- the links after the edge at place i went before the chain of its key; from 2,048 on there is no place for an edge
unfoldable pub link_at : List ℕ → ℕ → ℕ → List ℕ
link_at ls i key = if ltb i 2048 then set (set ls i (get_or ls (chain_of key) 0)) (chain_of key) i else ls

-- the links are those of an index of the words: they lead to the first word with a key in as many steps as there are words, and
-- no link leads to a place where a further word may go
pub record Indexed (ws : List EdgeWord) (ls : List ℕ) : Type 0 where
  pub long : length ls ≡ 3328
  pub inside : (p : ℕ) → p < 3328 → get_or ls p 0 < 2048 → get_or ls p 0 < length ws
  pub finds : (key k : ℕ) → length ws ≤ k → place_on k ws ls key (get_or ls (chain_of key) 0) ≡ first_place (key_is key) ws

-- following as the links lead
unfoldable pub follow_links : List ClassEntry → List EdgeWord → List ℕ → ℕ → ℕ → g.Follow
follow_links cs ws ls n k = g.follow_first (linked_end ws ls n) (g.events_of cs k)
