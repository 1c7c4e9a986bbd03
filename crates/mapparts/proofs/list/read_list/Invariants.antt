-- The elements so far, and those that are left to read, come to the whole list.
use mathlib.Core.List.{map}
use lib.ListN.{take}
use Rattle.mapparts.proofs.Reading.{Left}
use Rattle.mapparts.proofs.list.read_list.Given as goal

abbrev pub invariant-loop-item : goal.invariant-loop-item
invariant-loop-item g l = Left g.E.Listed.read l.count l.item-index (map g.E.Listed.value (take l.item-index l.item-items)) l.initial.reader.rest.now l.reader.rest.now
