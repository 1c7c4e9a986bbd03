-- What the pushes of the actions that are left come to from here is what those of all come to from the start.
use Rattle.std.proofs.Common.{◌≡◌, drop}
use Rattle.rules.specs.KeyLoop as key
use Rattle.keytables.specs.View.{tables_of}
use Rattle.keypairs.specs.View.{context_in, shared_of}
use Rattle.keypairs.proofs.live.Live.push_all.Given as goal

abbrev pub invariant-loop-action : goal.invariant-loop-action
invariant-loop-action l =
    key.push_all (drop l.action-index l.actions) (context_in l.fn.context) (shared_of (tables_of l.tables) l.self)
    ≡ key.push_all l.actions (context_in l.fn.context) (shared_of (tables_of l.tables) l.initial.self)
