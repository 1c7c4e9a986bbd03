-- The rank is `place` and one more, and the rank among the entries from there on.
use lib.ListN.{drop}
use Prim.Native.Nat.{suc, ◌+◌}
use mathlib.Core.List.{map}
use mathlib.Core.Path.{◌≡◌}
use Rattle.rules.specs.Values.{Class}
use Rattle.rules.specs.OnePass.{rank, class_rank}
use Rattle.keyvalues.specs.View.{class_at}
use Rattle.keyparts.proofs.follow.Order.class_rank.Given as goal

abbrev pub invariant-loop-place : goal.invariant-loop-place
invariant-loop-place l = rank (map class_at l.self.classes.now) l.self.key (Class l.class) ≡ suc l.place + class_rank (map class_at (drop l.place l.self.classes.now)) l.self.key (Class l.class)
