-- What a round and a key mean, in the values of the rules.
use Rattle.std.specs.Prelude
use Rattle.std.specs.Prelude.{ℕ}
use Rattle.rules.specs.Basics.{Result, accept, ◌>>=◌}
use Rattle.rules.specs.KeyLoop as key
use Rattle.rules.specs.Calls as c
use Rattle.rules.specs.Graph as g
use Rattle.keyvalues.specs.declared.refusal.Refusal.{Refusal}
use Rattle.keyvalues.specs.View.{step_of, told}
use Rattle.keyparts.specs.View.{graph_of, edge_words, follow_links}
use Rattle.keyparts.specs.declared.graph.Graph.{Graph}
use Rattle.keyparts.specs.declared.index.Index.{Index}
use Rattle.keytables.specs.View.{tables_of}
use Rattle.keypairs.specs.View.{hooked}
use Rattle.keypairs.specs.declared.live.Live.{Live}
use Rattle.keyloop.specs.declared.turn.InputResult.{InputResult}
use Rattle.keyloop.specs.declared.turn.InputResult.TheVariants.{Again, ClearTrail, Consumed, NeedMore, Unmapped, RunStep, RetryAfter}
use Rattle.keyloop.specs.declared.key.IndexedMap.{IndexedMap}

-- ---- a round

-- the navigator of the graph, but that following goes as the links of the index lead
unfoldable pub link_navigator : Graph → Index → key.Navigator ℕ
link_navigator gr ix = record {
  turn = λ cs n key. c.turn_by (graph_of gr) n (follow_links cs (edge_words gr) ix.links n key);
  root = λ m. m;
  mode_of = λ n. (g.get_node (graph_of gr) n).mode;
}

abbrev pub navigator_of : IndexedMap → key.Navigator ℕ
navigator_of m = link_navigator m.indexed.graph.now m.indexed.index.now

abbrev pub result_by : InputResult → key.InputResult
result_by Again = key.Again
result_by ClearTrail = key.ClearTrail
result_by Consumed = key.Consumed
result_by NeedMore = key.NeedMore
result_by Unmapped = key.Unmapped
result_by (RunStep s) = key.RunStep (step_of s)
result_by (RetryAfter s) = key.RetryAfter (step_of s)

-- the turn of a key at the live state's place
abbrev pub turn_of : IndexedMap → ℕ → Live → key.Turn ℕ
turn_of m k l = (navigator_of m).turn (tables_of m.tables.now).classes l.state.place k

-- a turn from there, after the event hook: what is to be done, and the state, whose place is the one come to
abbrev pub turned : key.Turn ℕ → ℕ → key.Shared → Result (key.InputResult × key.State ℕ)
turned x k c = do m ← hooked x.event k (key.at x.place c); accept (x.result, m)

-- ---- a key

-- the rounds that were made, and what the key came to where the state is m
abbrev pub key_of : ℕ × Prelude.Result (Unit {0}) Refusal → key.State ℕ → key.KeyResult ℕ
key_of r m = record { rounds = r.0; result = told (λ _. m) r.1 }
