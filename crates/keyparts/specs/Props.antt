-- That links are those of an index is true in one way at most.
use Rattle.std.specs.Prelude.{ℕ, List}
use Rattle.std.proofs.Props.{props}
use Rattle.keyparts.specs.declared.edge.EdgeWord.{EdgeWord}
use Rattle.keyparts.specs.View.{Indexed}

pub Indexed-prop : (ws : List EdgeWord) (ls : List ℕ) → IsProp (Indexed ws ls)
Indexed-prop ws ls = hlevel props
