-- Tables in range have words of their entries.
use Rattle.std.proofs.Common.{rules, ◌≡◌, sym, ap, ◌∙◌, length}
use mathlib.Core.Path.{subst}
use native.Mathlib.Omega.{arith}
use Rattle.rules.specs.Basics.{accept}
use Rattle.rules.specs.Tables.{class_valid, mode_valid, rule_valid}
use Rattle.keyvalues.specs.View.{class_at}
use Rattle.keyvalues.proofs.Ranges.{length-mapped}
use Rattle.keytables.specs.View.{class_by, entry_in, whole_entry, rule_of, rule_by}
use Rattle.keytables.proofs.Packs.{Packed, packed_front, all_words}
use Rattle.keytables.proofs.tables.Tables.pack.Goals as goal

pub returns : goal.returns
returns c = let x = c.args.self.now in
    let cs = c.pack_front.new.words in
    let ms = c.pack_front-2.new.words in
    let rs = c.pack_front-3.new.words in
    let lc : length x.classes ≡ 16 = search (rules, length-mapped) in
    let lm : length x.modes ≡ 16 = search (rules, length-mapped) in
    let lr : length x.rules ≡ 64 = search (rules, length-mapped) in
    let h = sym c.valid.ensures ∙ c.if-not-valid.false in
    rw h (ap accept (all_words x lc lm lr h cs ms rs
    (packed_front class_at class_by (λ e. class_valid (class_by e)) x.sizes.classes x.classes cs (omega (arith, lc, c.pack_front.auto.words))
    (subst (λ es. Packed (λ e. class_valid (class_by e)) (λ w e. class_at w ≡ class_by e) es cs (length es)) c.front.ensures c.pack_front.ensures))
    (packed_front entry_in whole_entry (λ e. mode_valid (whole_entry e)) x.sizes.modes x.modes ms (omega (arith, lm, c.pack_front-2.auto.words))
    (subst (λ es. Packed (λ e. mode_valid (whole_entry e)) (λ w e. entry_in w ≡ whole_entry e) es ms (length es)) c.front-2.ensures c.pack_front-2.ensures))
    (packed_front rule_of rule_by (λ e. rule_valid (rule_by e)) x.sizes.rules x.rules rs (omega (arith, lr, c.pack_front-3.auto.words))
    (subst (λ es. Packed (λ e. rule_valid (rule_by e)) (λ w e. rule_of w ≡ rule_by e) es rs (length es)) c.front-3.ensures c.pack_front-3.ensures))))
