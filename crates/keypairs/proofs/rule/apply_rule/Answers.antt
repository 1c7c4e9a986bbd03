-- A rule that matches tracks its sequence, and another changes nothing.
use Rattle.std.proofs.Common.{◌≡◌, true, ◌<◌, length, sym, ap, ◌∙◌, arith}
use Rattle.rules.specs.Values.{Pair}
use Rattle.rules.specs.Tables.{matches}
use Rattle.rules.specs.KeyLoop.{apply_rule}
use Rattle.keytables.specs.View.{rule_by}
use Rattle.keypairs.specs.View.{pair_of}
use Rattle.keypairs.proofs.Pushes.{rule_tracks}
use borrow.Author.Rules.{rules}
use Rattle.keypairs.proofs.rule.apply_rule.Goals as goal

pub returns-then-matches : goal.returns-then-matches
unfolding apply_rule
returns-then-matches c = let a = c.args in let r = c.from-rule in let n : length a.sequences.now ≡ 8 = search rules in
    let h : r.result.sequence < length a.sequences.now = omega (arith, r.ensures.1) in
    let m : matches (rule_by r.result) a.mode (pair_of a.w).action ≡ true = ap (λ (p : Pair). matches (rule_by r.result) a.mode p.action) (sym c.unpack.ensures) ∙ sym c.matches.ensures ∙ c.if-matches.true in
    rw (← r.ensures.0, m, ← c.from.ensures) (rule_tracks a.sequences.now r.result.sequence _ _ h _ (pair_of a.w) c.track.result c.track.ensures)
