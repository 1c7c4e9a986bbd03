-- What a caller hands over, and the tests of its ranges.
use Prim.Native.Nat.{ℕ, ◌≤◌}
use mathlib.Core.Path.{◌≡◌, sym, ◌∙◌}
use mathlib.Core.List.{List, ◌++◌, map}
use native.Mathlib.Omega.{arith}
use lib.ListN.{length, take, replicate, length-take, length-append, length-replicate, length-map}
use lib.Seq.{take-append-le}
use Rattle.std.proofs.lemmas.Bool.Decides.{nat_tests}
use Rattle.std.proofs.lemmas.List.{take-map}
use Rattle.std.specs.List.{list_all}
use Rattle.keyvalues.proofs.Lists.{every_viewed}
use Rattle.rules.specs.Values.{part_valid, path_valid}
use Rattle.keyvalues.specs.declared.path.EdgePath.{EdgePath as Path}
use Rattle.keyvalues.specs.View.{fit, part_of, whole_path}

-- the length of an array of structs, from that of its view
pub length-mapped : (X Y : Type 0) (f : X → Y) (l : List X) (n : ℕ) → length (map f l) ≡ n → length l ≡ n
length-mapped X Y f l n p = sym (length-map l f) ∙ p

module _ {A : Type 0} (d : A) (n : ℕ) (xs : List A) where
  pub fit_take : n ≤ length xs → fit d n xs ≡ take n xs
  unfolding fit
  fit_take h = take-append-le n xs (replicate n d) h

  pub fit_length : length (fit d n xs) ≡ n
  unfolding fit
  fit_length = omega (arith, length-take n (xs ++ replicate n d), length-append xs (replicate n d), length-replicate n d)

-- what a list handed over is seen as, whole and as it is there
pub ruleset fits = (fit_take, fit_length, take-map, length-map, every_viewed)

-- a path that is not too long is in range where each of its parts is
pub path_short : (p : Path) → length p.parts ≡ 32 → p.count ≤ 32 → list_all (λ part. part_valid (part_of part)) (take p.count p.parts) ≡ path_valid (whole_path p)
unfolding path_valid
path_short p e h = every_viewed part_of part_valid (take p.count p.parts) ∙ grind (arith, nat_tests, fits)
