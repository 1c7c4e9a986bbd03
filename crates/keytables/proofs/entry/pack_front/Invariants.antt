-- The words so far are those of the entries so far.
use Rattle.keytables.proofs.Packs.{Packed}
use Rattle.keytables.proofs.entry.pack_front.Given as goal

abbrev pub invariant-loop-place : goal.invariant-loop-place
invariant-loop-place g l = Packed g.E.Entry.in_range g.E.Entry.means l.entries l.words l.place
