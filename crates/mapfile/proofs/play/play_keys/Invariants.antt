-- What is still to be played, from the machine and the pairs so far, comes to what the whole play comes to; a key takes a byte.
use Prim.Native.Nat.{ℕ}
use mathlib.Core.Path.{◌≡◌}
use mathlib.Core.List.{List}
use lib.ListN.{length}
use Rattle.rules.specs.Basics.{accept}
use Rattle.rules.specs.Values.{Binding}
use Rattle.rules.specs.Run.{read_keys}
use Rattle.keyparts.specs.View.{graph_of}
use Rattle.keytables.specs.View.{tables_of}
use Rattle.keypairs.specs.View.{live_of}
use Rattle.mapfile.proofs.Playing.{Playing}
use Rattle.mapfile.proofs.play.play_keys.Given as goal

abbrev pub invariant-loop-reader : goal.invariant-loop-reader
invariant-loop-reader l = record {
  name : l.writer.bytes.ghost_name ≡ l.initial.writer.bytes.ghost_name;
  long : length l.writer.bytes.now ≡ length l.initial.writer.bytes.now;
  left : (cs : List Binding) (ks : List ℕ) → read_keys l.keys ≡ accept ks → Playing (graph_of l.map.indexed.graph.now) cs (tables_of l.map.tables.now) l.budget l.initial.writer.bytes.now ks l.reader.rest.now (live_of (tables_of l.map.tables.now) l.live) l.writer.at l.writer.bytes.now;
}

abbrev pub decreases-loop-reader : goal.decreases-loop-reader
decreases-loop-reader l = length l.reader.rest.now
