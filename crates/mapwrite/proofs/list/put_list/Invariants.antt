-- What was put has few numbers. What is still to be put, from the page so far, comes to what the whole list comes to.
use mathlib.Core.Path.{◌≡◌}
use mathlib.Core.List.{map, flat_map}
use lib.ListN.{length, drop}
use Rattle.rules.specs.Writing.{listed}
use Rattle.mapparts.specs.View.{page_of, put_all}
use Rattle.mapwrite.proofs.Lists.{Short}
use Rattle.mapwrite.proofs.list.put_list.Given as goal

abbrev pub invariant-loop-item : goal.invariant-loop-item
invariant-loop-item g l = record {
  name : l.writer.bytes.ghost_name ≡ l.fn.writer.bytes.ghost_name;
  long : length l.writer.bytes.now ≡ length l.fn.writer.bytes.now;
  short : Short g.E.Written.numbers g.E.Written.value g.E.Written.most l.there l.item-index;
  left : put_all (flat_map g.E.Written.numbers (map g.E.Written.value (drop l.item-index l.there))) (page_of l.writer) ≡ put_all (listed g.E.Written.numbers (map g.E.Written.value l.there)) (page_of l.fn.writer);
}
