-- What is left to read, from the machine so far, comes to what the whole comes to.
use Prim.Native.Nat.{ℕ, ◌-◌}
use mathlib.Core.Path.{◌≡◌}
use Rattle.rules.specs.KeyLoop.{State}
use Rattle.rules.specs.MapFile.{read_bindings}
use Rattle.keybind.specs.View.{map_kept}
use Rattle.mapfile.proofs.bind.read_bindings_or_scratch.Given as goal

abbrev pub invariant-loop : goal.invariant-loop
invariant-loop l = record {
  tables : l.map.tables ≡ l.fn.map.tables;
  left : (x : State ℕ) → read_bindings (l.n - l.counter) (map_kept l.kept l.map x) l.reader.rest.now ≡ read_bindings l.n (map_kept l.fn.kept l.fn.map x) l.fn.reader.rest.now;
}
