-- What the times that are left come to from here is what all come to from the start.
use Prim.Native.Nat.{◌-◌}
use mathlib.Core.Path.{◌≡◌}
use Rattle.keyvalues.specs.View.{event_of, maybe_of}
use Rattle.keygraph.specs.Making.{cursor_of, add_times}
use Rattle.keygraph.proofs.cursor.Cursor.add_each.Given as goal

abbrev pub invariant-loop-turn : goal.invariant-loop-turn
invariant-loop-turn g l =
    (l.self.graph.ghost_name ≡ l.fn.self.graph.ghost_name)
    × (l.self.mode.id ≡ l.fn.self.mode.id)
    × (add_times (l.n - l.turn) l.self.mode.id (event_of l.event) (maybe_of l.end) (cursor_of l.self) ≡ add_times l.n l.fn.self.mode.id (event_of l.event) (maybe_of l.end) (cursor_of l.fn.self))
