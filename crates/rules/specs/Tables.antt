-- Document 01, "From the Rust to tables": class table, mode table and sequence rules.
use Rattle.std.specs.Prelude.{ℕ, Bool, true, false, ◌&&◌, List, [], ◌∷◌, ◌++◌, leb, ltb, eqb, length, get_or, if◌then◌else◌}
use Rattle.std.proofs.Math.Option.{Option, none, some}
use Rattle.rules.specs.Basics.{every, present}
use Rattle.rules.specs.Values.{mode_count, most_classes, most_actions, most_rules, is_mode, is_class, is_sequence, is_status}

-- ---- class table

pub record ClassEntry : Type 0 where
  pub class : ℕ
  pub low : ℕ
  pub high : ℕ

unfoldable pub holds_key : ClassEntry → ℕ → Bool
holds_key c k = leb c.low k && leb k c.high

-- a key's memberships, in table order: the class of each entry that has the key in its range, both ends counted
unfoldable pub memberships : List ClassEntry → ℕ → List ℕ
memberships [] k = []
memberships (c ∷ cs) k = (if holds_key c k then c.class ∷ [] else []) ++ memberships cs k

unfoldable pub class_valid : ClassEntry → Bool
class_valid c = is_class c.class && leb c.low c.high

-- ---- mode table

pub record ModeEntry : Type 0 where
  pub enter : List ℕ
  pub unmapped : List ℕ
  pub next : Option ℕ

unfoldable pub no_entry : ModeEntry
no_entry = record { enter = []; unmapped = []; next = none }

-- the entry of a mode; a mode that the table does not reach has empty lists and no next mode
unfoldable pub mode_entry : List ModeEntry → ℕ → ModeEntry
mode_entry es m = get_or es m no_entry

unfoldable pub mode_valid : ModeEntry → Bool
mode_valid e =
    leb (length e.enter) most_actions && (leb (length e.unmapped) most_actions && present is_mode e.next)

-- ---- sequence rules

pub data Status : Type 0 where
  Atom Break Ignore Restart Track : Status

-- Atom, Break, Ignore, Restart, Track, numbered from 0. (No table that open takes has a larger number.)
unfoldable pub status_of : ℕ → Status
status_of s =
    if eqb s 0 then Atom else (if eqb s 1 then Break else (if eqb s 2 then Ignore else (if eqb s 3 then Restart else Track)))

pub record Rule : Type 0 where
  pub mode : ℕ
  pub low : ℕ
  pub high : ℕ
  pub sequence : ℕ
  pub status : ℕ

-- the rule is for the mode and its range holds the action
unfoldable pub matches : Rule → ℕ → ℕ → Bool
matches r mode action = eqb r.mode mode && (leb r.low action && leb action r.high)

unfoldable pub rule_valid : Rule → Bool
rule_valid r =
    is_mode r.mode && (leb r.low r.high && (is_sequence r.sequence && is_status r.status))

-- ---- the tables of a machine

pub record Tables : Type 0 where
  pub classes : List ClassEntry
  pub modes : List ModeEntry
  pub rules : List Rule

unfoldable pub no_tables : Tables
no_tables = record { classes = []; modes = []; rules = [] }

unfoldable pub tables_valid : Tables → Bool
tables_valid t =
    leb (length t.classes) most_classes && every class_valid t.classes
    && (leb (length t.modes) mode_count && every mode_valid t.modes)
    && (leb (length t.rules) most_rules && every rule_valid t.rules)

-- ---- everything above, to be opened by one name where a run is computed
unfoldable pub open-Tables : Unit {0}
unfolding holds_key memberships class_valid no_entry mode_entry mode_valid status_of matches rule_valid no_tables tables_valid
open-Tables = tt
