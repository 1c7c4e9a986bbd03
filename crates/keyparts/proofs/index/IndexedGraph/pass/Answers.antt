-- The chain begins with no edge gone through; each word on it is of another group or of this one; and it ends where none ahead can be
-- better, at a place where no edge is, or after its steps.
use Prim.Native.Nat.{◌-◌, ◌+◌, ◌*◌, ◌<◌}
use mathlib.Core.Path.{◌≡◌, sym, ◌∙◌}
use mathlib.Core.Bool.{true}
use mathlib.Core.List.{map}
use native.Mathlib.Omega.{arith}
use Rattle.std.proofs.Common.{rules}
use lib.ListN.{length, get_or}
use Rattle.keyvalues.specs.View.{class_at, event_of, event_code}
use Rattle.keyparts.specs.View.{edge_words, no_edge}
use Rattle.keyparts.specs.Pass.{in_group}
use Rattle.keyparts.proofs.Passes.{passed_none, passed_first, passed_out, passed_all, passed_over, passed_more}
use Rattle.keyparts.proofs.index.IndexedGraph.pass.Goals as goal
use Rattle.keyparts.proofs.index.IndexedGraph.pass.Goals.{then-in_group+else-best-first, else-in_group}

pub loop-init : goal.loop-init
loop-init c = rw (c.chain_of.ensures.0, c.key_of-sought.ensures.key) passed_none

pub returns-then-words-at : goal.returns-then-words-at
returns-then-words-at c = passed_out c.loop.invariant (rw c.edge_words-words.ensures.words at c.if-words-at.true)

pub returns-then-best-first : goal.returns-then-best-first
returns-then-best-first c = let a = c.args in let l = c.loop in
    let at : l.at < length (edge_words a.self.graph.now) = rw c.edge_words-words.ensures.words at c.if-words-at.false in
    let own : true ≡ in_group (a.node + event_code (event_of a.event) * 65536) (get_or (edge_words a.self.graph.now) l.at no_edge)
    = rw (c.key_of-sought.ensures.key, c.edge_words-words.ensures.words) at (c.if-in_group.ensures {u = tt}) in
    let more = passed_more l.invariant at (omega (arith, c.loop-test.true)) c.of.result _ c.ranges.node.fits (sym own) (rw c.edge_words-words.ensures.words at c.of.ensures.word)
    (c.better-best.ensures (map class_at a.order.classes.now) a.order.key (c.of.ensures.rank a.node c.ranges.node.fits (rw c.edge_words-words.ensures.words (sym own)))) in
    passed_first more c.ranges.node.fits (search rules) (rw c.first_rank-first.ensures at c.if-best-first.true)

pub loop-preserved : goal.loop-preserved
loop-preserved c = let a = c.args in let l = c.loop in
    let at : l.at < length (edge_words a.self.graph.now) = rw c.edge_words-words.ensures.words at c.if-words-at.false in
    let steps : 0 < 2048 - l.counter = omega (arith, c.loop-test.true) in
    let left : 2048 - l.counter - 1 ≡ 2048 - (l.counter + 1) = omega arith in
    let own : c.in_group.result ≡ in_group (a.node + event_code (event_of a.event) * 65536) (get_or (edge_words a.self.graph.now) l.at no_edge)
    = rw (c.key_of-sought.ensures.key, c.edge_words-words.ensures.words) at c.in_group.ensures in
    rw (← left) (elim c.if-in_group.branch [
      | then-in_group+else-best-first w ↦
          rw w.best-is (passed_more l.invariant at steps w.of.result _ c.ranges.node.fits (sym own ∙ w.if-in_group.true) (rw c.edge_words-words.ensures.words at w.of.ensures.word)
          (w.better-best.ensures (map class_at a.order.classes.now) a.order.key (w.of.ensures.rank a.node c.ranges.node.fits (rw c.edge_words-words.ensures.words (sym own ∙ w.if-in_group.true)))))
      | else-in_group w ↦ rw w.best-is (passed_over l.invariant at steps (sym own ∙ w.if-in_group.false))
    ])

pub returns : goal.returns
returns c = passed_all c.loop.invariant (omega (arith, c.loop-test.false))
