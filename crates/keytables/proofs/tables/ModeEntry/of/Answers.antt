-- Within the table the entry is that of the mode's words.
use Rattle.std.proofs.Common.{◌∙◌, sym, ap}
use Rattle.std.proofs.lemmas.List.{get_or-map}
use Rattle.rules.specs.Tables.{mode_entry, no_entry}
use Rattle.keyvalues.specs.View.{mode_table}
use Rattle.keytables.specs.View.{entry_in}
use Rattle.keytables.proofs.tables.ModeEntry.of.Goals as goal

pub returns-in-Some : goal.returns-in-Some
unfolding mode_entry
returns-in-Some c = let t = mode_table c.args.tables.now in let w = c.in-Some.ensures in
    c.from.ensures ∙ sym (get_or-map entry_in t c.args.mode c.in-Some.words no_entry w.0 ∙ ap entry_in (w.1 c.in-Some.words))
