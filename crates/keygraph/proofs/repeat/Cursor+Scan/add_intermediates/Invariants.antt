-- What the parts that are left come to from here is what all come to from the start.
use mathlib.Core.Path.{◌≡◌}
use mathlib.Core.List.{map}
use lib.ListN.{drop}
use Rattle.keyvalues.specs.View.{part_of}
use Rattle.keygraph.specs.Making.{cursor_of, add_parts}
use Rattle.keygraph.proofs.repeat.Cursor+Scan.add_intermediates.Given as goal

abbrev pub invariant-loop-part : goal.invariant-loop-part
invariant-loop-part l =
    (l.self.graph.ghost_name ≡ l.fn.self.graph.ghost_name)
    × (l.self.mode.id ≡ l.fn.self.mode.id)
    × (add_parts l.self.mode.id (map part_of (drop l.part-index l.parts)) (cursor_of l.self) ≡ add_parts l.fn.self.mode.id (map part_of l.fn.parts) (cursor_of l.fn.self))
