-- The words of the modes so far are those of their roots.
use Prim.Native.Nat.{ℕ, zero, suc}
use mathlib.Core.Path.{◌≡◌}
use mathlib.Core.List.{List, map}
use lib.ListN.{set, replicate}
use Rattle.rules.specs.Graph.{Node, Root, no_node}
use Rattle.keyvalues.specs.View.{node_in}
use Rattle.keyparts.proofs.graph.Graph.fresh.Given as goal

-- the roots of the first n modes
unfoldable pub rooted : ℕ → List Node
rooted zero = replicate 16 no_node
rooted (suc n) = set (rooted n) n (record { mode = n; action = Root })

abbrev pub invariant-loop-mode : goal.invariant-loop-mode
invariant-loop-mode l = map node_in l.words-items ≡ rooted l.mode
