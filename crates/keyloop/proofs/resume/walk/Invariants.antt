-- The keys that are left lead from the place so far where all lead from the root.
use Rattle.std.proofs.Common.{◌≡◌, drop}
use Rattle.rules.specs.KeyLoop as rules
use Rattle.keytables.specs.View.{tables_of}
use Rattle.keyloop.specs.View.{navigator_of}
use Rattle.keyloop.proofs.resume.walk.Given as goal

abbrev pub invariant-loop-key : goal.invariant-loop-key
invariant-loop-key l =
    rules.walk (navigator_of l.map) (tables_of l.map.tables.now).classes (drop l.key-index l.trail) l.place
    ≡ rules.walk (navigator_of l.map) (tables_of l.map.tables.now).classes l.trail l.root
