-- The group of a key has its event alone, and any other edge has the event of its word.
use Prim.Native.Nat.{◌<◌}
use mathlib.Core.Path.{◌≡◌, sym, ap, ◌∙◌}
use mathlib.Core.List.{map}
use mathlib.Core.Option.{some}
use Rattle.std.proofs.Common.{rules}
use Rattle.std.proofs.Math.Option.{some-injective}
use Rattle.rules.specs.Values as v
use Rattle.rules.specs.OnePass.{rank}
use Rattle.keyvalues.specs.View.{class_at, event_of, event_code}
use Rattle.keyparts.specs.View.{maybe_event}
use Rattle.keyparts.proofs.Remembered.{rank_of_event}
use Rattle.keyparts.proofs.Passes.{group_event}
use Rattle.keyparts.proofs.follow.Ranked.of.Goals as goal
use Rattle.keyparts.proofs.follow.Ranked.of.Goals.{in-Key, in-Class}

pub returns-in-Some-clause-rank : goal.returns-in-Some-clause-rank
unfolding event_code
returns-in-Some-clause-rank c = let cs = map class_at c.args.order.classes.now in elim c.match-event.branch [
  | in-Key w ↦ λ n hn e.
      let fits : w.in-Key.own < 65536 = search rules in
      let is : maybe_event c.match-event.known ≡ some (v.Key w.in-Key.own) = ap maybe_event w.known-is in
      let told : maybe_event c.match-event.known ≡ some (event_of c.in-Some.event) = ap maybe_event c.in-Some.is in
      let same : event_of c.in-Some.event ≡ v.Key w.in-Key.own = some-injective (event_of c.in-Some.event) (v.Key w.in-Key.own) (sym told ∙ is) in
      c.rank-rank.ensures ∙ ap (rank cs c.args.order.key) (same ∙ sym (group_event n w.in-Key.own c.args.word hn fits (rw w.in-Key.is at e)))
  | in-Class w ↦ λ n hn e.
      c.rank-rank.ensures ∙ rank_of_event c.args.order.classes.now c.args.order.key c.args.word (event_of c.in-Some.event) (sym (ap maybe_event c.in-Some.is) ∙ ap maybe_event w.known-is ∙ w.event-known.ensures)
]
