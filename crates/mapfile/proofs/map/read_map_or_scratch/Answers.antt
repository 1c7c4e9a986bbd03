-- The tables, the count and the bindings are read in a row from the fresh machine, and then nothing may be left.
use mathlib.Core.Path.{ap, ◌∙◌}
use mathlib.Core.Option.{none}
use mathlib.Core.List.{[]}
use borrow.Author.Rules.{rules}
use Rattle.rules.specs.Values.{Prefixes}
use Rattle.rules.specs.Calls.{graph_kind, fresh}
use Rattle.rules.specs.MapFile.{read_bindings, at_end}
use Rattle.keytables.specs.View.{tables_of}
use Rattle.keyvalues.specs.View.{told}
use Rattle.keybind.specs.View.{map_kept}
use Rattle.mapparts.proofs.Reading.{end_of}
use Rattle.mapfile.proofs.Bindings.{no_tables_read, no_count, counted_read}
use Rattle.mapfile.proofs.map.read_map_or_scratch.Goals as goal

pub returns-in_err-map : goal.returns-in_err-map
returns-in_err-map c fresh_map = let h = no_tables_read c.args.bytes.now _ c.in_err-map.ensures in search rules

pub returns-in_err-n : goal.returns-in_err-n
returns-in_err-n c fresh_map = let h = no_count c.args.bytes.now _ _ c.in_ok-map.ensures _ c.in_err-n.ensures.reads in search rules

pub returns-in_err-read_bindings_or_scratch : goal.returns-in_err-read_bindings_or_scratch
unfolding at_end
returns-in_err-read_bindings_or_scratch c fresh_map =
    let t = tables_of c.in_ok-map.field-0 in
    let h = counted_read c.args.bytes.now t _ c.in_ok-map.ensures _ _ c.in_ok-n.ensures.reads (c.in_err-read_bindings_or_scratch.ensures.bound (fresh graph_kind t).state ∙ ap (λ m. read_bindings c.in_ok-n.n m c.number.new.self.rest.now) (fresh_map t)) in
    search rules

pub returns : goal.returns
returns c fresh_map =
    let t = tables_of c.in_ok-map.field-0 in
    let e = c.in_ok-read_bindings_or_scratch.ensures in
    let h = counted_read c.args.bytes.now t _ c.in_ok-map.ensures _ _ c.in_ok-n.ensures.reads (e.bound (fresh graph_kind t).state ∙ ap (λ m. read_bindings c.in_ok-n.n m c.number.new.self.rest.now) (fresh_map t)) in
    let k = c.read_bindings_or_scratch.new in
    let b = Prefixes 0 [] none in
    ap (λ ts. told (λ _. map_kept k.kept k.map (fresh graph_kind (tables_of ts)).state) c.end.result) e.tables ∙ end_of (map_kept k.kept k.map (fresh graph_kind t).state) b _ _ (c.end.ensures b) ∙ h
