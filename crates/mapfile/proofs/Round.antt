-- What is written is read back.
use Prim.Native.Nat.{ℕ, ◌≤◌}
use native.Mathlib.Omega.{arith}
use mathlib.Core.Path.{◌≡◌}
use mathlib.Core.List.{List, ◌++◌}
use Rattle.rules.specs.Basics.{accept}
use Rattle.rules.specs.Numbers.{number, bytes_of}
use Rattle.rules.proofs.Numbers.{read_written}

pub read_back : (n : ℕ) (rest : List ℕ) → n ≤ 65535 → number (bytes_of n ++ rest) ≡ accept (n, rest)
unfolding number
read_back n rest h = read_written 65535 n rest h (omega arith) (omega arith)
