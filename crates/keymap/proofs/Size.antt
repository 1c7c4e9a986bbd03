-- The bytes that C lends are those of the scanner's type, and so is the alignment that `keymap.h` asks for.
use mathlib.Core.Path.{◌≡◌, refl}
use prog.Memory.{size, align}
use Rattle.keymachine.proofs.scanner.Scanner.TheLaws.{mir}
use Rattle.keymap.specs.Codes.{scanner_bytes}

pub bytes : size mir ≡ scanner_bytes
bytes = refl

pub aligned : align mir ≡ 8
aligned = refl
