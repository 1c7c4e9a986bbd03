-- The run goes in the front of the output, and a refused run's output is cleared.
use Prim.Native.Nat.{min}
use native.Mathlib.Omega.{arith}
use mathlib.Core.Path.{◌≡◌, sym, ap, ◌∙◌}
use mathlib.Core.List.{◌++◌}
use lib.ListN.{length, take, drop, replicate, length-append, length-take, length-drop}
use Rattle.rules.specs.Run.{run}
use Rattle.mapfile.proofs.Runs.{told_run, told_zeros}
use Rattle.mapfile.proofs.run.run.Goals as goal

pub returns-else-is_err-clause-sent : goal.returns-else-is_err-clause-sent
returns-else-is_err-clause-sent c =
    let o = c.args.output.now in
    let l : length (take c.min-room.result o) ≡ min (length o) 65536 = omega (arith, length-take c.min-room.result o, c.min-room.ensures) in
    told_run (run c.args.map.now c.args.keys.now c.args.budget (length o)) o c.min-room.result _ _ (c.play-written.ensures (length o) l) (sym c.is_err.ensures.value ∙ c.if-is_err.false)

pub returns-then-is_err-clause-sent : goal.returns-then-is_err-clause-sent
returns-then-is_err-clause-sent c =
    let o = c.args.output.now in
    let room = c.min-room.result in
    let l : length (take room o) ≡ min (length o) 65536 = omega (arith, length-take room o, c.min-room.ensures) in
    let k : length (c.play-written.new.out ++ drop room o) ≡ length o = omega (arith, length-append c.play-written.new.out (drop room o), c.play-written.auto.out, length-take room o, length-drop room o, c.min-room.ensures) in
    told_zeros (run c.args.map.now c.args.keys.now c.args.budget (length o)) o _ _ (c.play-written.ensures (length o) l).0 (sym c.is_err.ensures.value ∙ c.if-is_err.true) (c.clear_all.ensures ∙ ap (λ n. replicate n 0) k)
