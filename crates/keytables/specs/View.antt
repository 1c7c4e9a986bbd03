-- What the words of tables and the declared types mean, in the values of the rules. Every word decodes to something.
use Rattle.std.specs.Prelude.{◌/◌, ◌%◌, List, map, take}
use Rattle.rules.specs.Tables as t
use Rattle.keyvalues.specs.View.{four_of, opt_of, class_table, mode_table, rule_table, maybe_of, actions_by, whole_actions, fit}
use Rattle.keyvalues.specs.declared.tables.TableWords.{TableWords}
use Rattle.keyvalues.specs.declared.tables.ModeWords.{ModeWords}
use Rattle.keyvalues.specs.declared.tables.RuleWord.{RuleWord}
use Rattle.keytables.specs.declared.rule.Rule.{Rule}
use Rattle.keytables.specs.declared.tables.ClassEntry.{ClassEntry}
use Rattle.keytables.specs.declared.tables.Tables.{Tables}
use Rattle.keytables.specs.declared.tables.ModeEntry.{ModeEntry}

-- ---- classes and rules

abbrev pub class_by : ClassEntry → t.ClassEntry
class_by c = record { class = c.class; low = c.low; high = c.high }

abbrev pub rule_by : Rule → t.Rule
rule_by r = record { mode = r.mode; low = r.low; high = r.high; sequence = r.sequence; status = r.status }

unfoldable pub rule_of : RuleWord → t.Rule
rule_of w = record {
  mode = w.word % 16;
  low = w.word / 1024 % 65536;
  high = w.word / 67108864 % 65536;
  sequence = w.word / 16 % 8;
  status = w.word / 128 % 8;
}

-- ---- modes

unfoldable pub entry_by : ModeEntry → t.ModeEntry
entry_by e = record { enter = actions_by e.enter; unmapped = actions_by e.unmapped; next = maybe_of e.next }

-- a mode's words: enter list, unmapped list, and a head with both counts and the next mode
unfoldable pub entry_in : ModeWords → t.ModeEntry
entry_in w = record {
  enter = take (w.head % 8) (four_of w.enter);
  unmapped = take (w.head / 8 % 8) (four_of w.unmapped);
  next = opt_of (w.head / 64);
}

-- ---- tables

abbrev pub tables : List t.ClassEntry → List t.ModeEntry → List t.Rule → t.Tables
tables cs ms rs = record { classes = cs; modes = ms; rules = rs }

-- the tables in their words
abbrev pub tables_of : TableWords → t.Tables
tables_of w = tables (class_table w) (map entry_in (mode_table w)) (map rule_of (rule_table w))

-- ---- what a caller hands over: as many as the count says, also where it is past the array's end

unfoldable pub whole_entry : ModeEntry → t.ModeEntry
whole_entry e = record { enter = whole_actions e.enter; unmapped = whole_actions e.unmapped; next = maybe_of e.next }

unfoldable pub no_class : t.ClassEntry
no_class = record { class = 0; low = 0; high = 0 }

unfoldable pub no_rule : t.Rule
no_rule = record { mode = 0; low = 0; high = 0; sequence = 0; status = 0 }

unfoldable pub whole_tables : Tables → t.Tables
whole_tables x = tables
    (fit no_class x.sizes.classes (map class_by x.classes))
    (fit t.no_entry x.sizes.modes (map whole_entry x.modes))
    (fit no_rule x.sizes.rules (map rule_by x.rules))
