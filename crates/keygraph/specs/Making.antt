-- What a step of a cursor does, and the parts of the rules' functions that a step does alone.
use Rattle.std.specs.Prelude
use Rattle.std.specs.Prelude.{ℕ, ◌≡◌, Bool, true, List, [], ◌∷◌, if◌then◌else◌}
use Rattle.std.proofs.Math.Option.{Option, none, some}
use Rattle.rules.specs.Basics.{Result, accept, ◌>>=◌}
use Rattle.rules.specs.Values as v
use Rattle.rules.specs.Graph as g
use Rattle.keyvalues.specs.View.{told}
use Rattle.keyvalues.specs.declared.refusal.Refusal.{Refusal}
use Rattle.keyparts.specs.View.{graph_of}
use Rattle.keyparts.specs.declared.search.Search.{Ghosts}
use Rattle.keygraph.specs.declared.cursor.Cursor.{Cursor}

module _ {S : Type 0} {s : Ghosts S} where
  -- where a cursor stands, in the values of the rules
  abbrev pub cursor_of : Cursor S s → g.Cursor
  cursor_of c = g.cursor (graph_of c.graph.now) c.at.prev c.at.owed

  -- a step goes on with the same graph and mode, and comes to what the rules' step does
  abbrev pub Leads : (g.Cursor → Result g.Cursor) → Cursor S s → Prelude.Result (Unit {0}) Refusal → Cursor S s → Type 0
  Leads step before result after = (after.graph.ghost_name ≡ before.graph.ghost_name) × (after.mode.id ≡ before.mode.id) × (told (λ _. cursor_of after) result ≡ step (cursor_of before))

  -- the same of a step that also gives a node
  abbrev pub Makes : (g.Cursor → Result (g.Cursor × ℕ)) → Cursor S s → Prelude.Result ℕ Refusal → Cursor S s → Type 0
  Makes step before result after = (after.graph.ghost_name ≡ before.graph.ghost_name) × (after.mode.id ≡ before.mode.id) × (told (λ n. (cursor_of after, n)) result ≡ step (cursor_of before))

-- the end of the cursor's edge for the event, or else a node more
unfoldable pub upserted : ℕ → v.Event → g.NodeAction → g.Cursor → Result (g.Cursor × ℕ)
upserted mode ev action c = do
  r ← g.upsert_node mode c.prev ev action c.graph
  accept (g.cursor r.0 c.prev c.fallthrough, r.1)

-- the Fallthrough edge that is owed, if one is
unfoldable pub paid : ℕ → g.Cursor → Result g.Cursor
paid to c = if c.fallthrough then g.edge_to to v.Fallthrough c else accept c

-- n further times the event; with an end, each of them may be the last
unfoldable pub add_times : ℕ → ℕ → v.Event → Option ℕ → g.Cursor → Result g.Cursor
add_times n mode ev none = g.add_simples n mode ev
add_times n mode ev (some end) = g.add_optionals n mode ev end

-- the parts of a path before its last
unfoldable pub add_parts : ℕ → List v.Part → g.Cursor → Result g.Cursor
add_parts mode [] c = accept c
add_parts mode (p ∷ ps) c = do
  c₁ ← g.add_intermediate mode p c
  add_parts mode ps c₁

-- a step that may be missing is in range
abbrev pub steps_valid : Option v.Step → Bool
steps_valid none = true
steps_valid (some st) = v.step_valid st
