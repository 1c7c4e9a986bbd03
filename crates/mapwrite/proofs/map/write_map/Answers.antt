-- What was written is what is sent; refused, the output is cleared.
use mathlib.Core.Path.{sym, ap, ◌∙◌}
use lib.ListN.{replicate}
use Rattle.keytables.specs.View.{tables_of}
use Rattle.keptcalls.specs.View.{kept_in}
use Rattle.mapwrite.proofs.Sent.{sent_told, sent_zeros}
use Rattle.mapwrite.proofs.map.write_map.Goals as goal

pub returns-else-is_err-clause-sent : goal.returns-else-is_err-clause-sent
returns-else-is_err-clause-sent c = sent_told (tables_of c.args.tables.now) (kept_in c.args.count c.args.kept.now) c.args.output.now _ _ c.write_or_scratch-written.ensures.wrote (sym c.is_err.ensures.value ∙ c.if-is_err.false)

pub returns-then-is_err-clause-sent : goal.returns-then-is_err-clause-sent
returns-then-is_err-clause-sent c = sent_zeros (tables_of c.args.tables.now) (kept_in c.args.count c.args.kept.now) c.args.output.now _ _ _ c.write_or_scratch-written.ensures.wrote (sym c.is_err.ensures.value ∙ c.if-is_err.true) (c.clear_all.ensures ∙ ap (λ n. replicate n 0) c.write_or_scratch-written.auto.output)
