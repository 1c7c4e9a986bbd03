-- Each part is that of its code, and no more than 32 are there.
use Rattle.std.proofs.Common.{rules, ℕ, List, ◌≡◌, ◌∙◌, min, length, take, arith}
use borrow.Author.Tests.{tests}
use mathlib.Core.List.{map}
use lib.ListN.{length-map}
use Rattle.keyvalues.specs.View.{fit, part_of, no_part}
use Rattle.keyvalues.specs.declared.path.EdgePathPart.{EdgePathPart}
use Rattle.keyvalues.proofs.Ranges.{fits}
use Rattle.std.proofs.lemmas.Grind.{common_steps}
use Rattle.keptcalls.specs.View.{part_at}
use Rattle.keyvalues.proofs.Maps.{mapped}
use Rattle.keptcalls.proofs.unpack.path.Goals as goal

-- the first parts of the array, whole and as they are there
front : (ps : List EdgePathPart) (cs : List ℕ) (n : ℕ) → length cs ≡ 32 → map part_of ps ≡ map part_at cs
    → (fit no_part (min n 32) (map part_of ps) ≡ take n (map part_at cs)) × (map part_of (take (min n 32) ps) ≡ take n (map part_at cs))
front ps cs n l e =
    let k : length (map part_at cs) ≡ 32 = length-map cs part_at ∙ l in
    (grind (arith, fits, common_steps), grind (arith, fits, common_steps))

pub returns : goal.returns
returns c = let cs = c.args.codes.now in
    let e = mapped part_of part_at cs c.map.result c.told-codes c.map.ensures.items (λ p q x y k. search (rules, tests)) in
    let h = front c.map.result cs c.args.count c.told-codes e in
    rw c.min.ensures (record { whole = h.0; there = h.1 })
