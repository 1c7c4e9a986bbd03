-- The rank is that of no edge.
use mathlib.Core.Path.{refl}
use Rattle.keyparts.proofs.Remembered.{no_edge_yet}
use Rattle.keyparts.proofs.follow.Ranked.none.Goals as goal

pub returns : goal.returns
returns c = no_edge_yet c.args.classes.now _ refl
