-- What the rules that are left come to from here is what all come to from the start.
use Rattle.std.proofs.Common.{◌≡◌, drop, map}
use Rattle.rules.specs.KeyLoop.{apply_rules}
use Rattle.keyvalues.specs.View.{rule_table}
use Rattle.keytables.specs.View.{rule_of}
use Rattle.keypairs.specs.View.{pair_of, trackers_of}
use Rattle.keypairs.proofs.rule.apply_rules.Given as goal

abbrev pub invariant-loop-rule : goal.invariant-loop-rule
invariant-loop-rule l =
    apply_rules (map rule_of (drop l.rule-index (rule_table l.tables))) l.mode (pair_of l.w) (trackers_of l.sequences)
    ≡ apply_rules (map rule_of (rule_table l.tables)) l.mode (pair_of l.w) (trackers_of l.initial.sequences)
