-- What is read of the tables is in range, since each number is tested when it is read.
use Prim.Native.Nat.{ℕ, ◌≤◌, ◌<◌}
use mathlib.Core.Path.{◌≡◌}
use mathlib.Core.Bool.{true}
use mathlib.Core.Option.{Option}
use mathlib.Core.List.{List}
use borrow.Author.Tests.{lt-ltb, le-leb}
use Rattle.rules.specs.Basics.{present}
use Rattle.rules.specs.Values.{is_mode}
use Rattle.rules.specs.Tables.{class_valid, mode_valid, rule_valid}
use Rattle.keyvalues.specs.View.{fit}
use Rattle.keyvalues.proofs.Ranges.{fit_length}

pub class_in_range : (class low high : ℕ) → class < 256 → low ≤ high → class_valid (record { class = class; low = low; high = high }) ≡ true
unfolding class_valid
class_in_range class low high c h = rw (lt-ltb class 256 c, le-leb low high h)

pub mode_in_range : (m n : ℕ) (xs ys : List ℕ) (next : Option ℕ) → m ≤ 4 → n ≤ 4 → present is_mode next ≡ true → mode_valid (record { enter = fit 0 m xs; unmapped = fit 0 n ys; next = next }) ≡ true
unfolding mode_valid
mode_in_range m n xs ys next h k p = rw (fit_length 0 m xs, fit_length 0 n ys, le-leb m 4 h, le-leb n 4 k, p)

pub rule_in_range : (mode low high sequence status : ℕ) → mode < 16 → low ≤ high → sequence < 8 → status < 5
    → rule_valid (record { mode = mode; low = low; high = high; sequence = sequence; status = status }) ≡ true
unfolding rule_valid
rule_in_range mode low high sequence status m h s t = rw (lt-ltb mode 16 m, le-leb low high h, lt-ltb sequence 8 s, lt-ltb status 5 t)
