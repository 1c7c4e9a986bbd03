-- What is still to be put, from the page so far, comes to what all pairs come to.
use mathlib.Core.Path.{◌≡◌}
use mathlib.Core.List.{map}
use lib.ListN.{length, drop}
use Rattle.keypairs.specs.View.{pair_of}
use Rattle.mapparts.specs.View.{page_of, put_all}
use Rattle.mapfile.specs.View.{pair_numbers}
use Rattle.mapfile.proofs.pairs.put_pairs.Given as goal

abbrev pub invariant-loop-word : goal.invariant-loop-word
invariant-loop-word l = record {
  name : l.writer.bytes.ghost_name ≡ l.fn.writer.bytes.ghost_name;
  long : length l.writer.bytes.now ≡ length l.fn.writer.bytes.now;
  left : put_all (pair_numbers (map pair_of (drop l.word-index l.words))) (page_of l.writer) ≡ put_all (pair_numbers (map pair_of l.words)) (page_of l.fn.writer);
}
