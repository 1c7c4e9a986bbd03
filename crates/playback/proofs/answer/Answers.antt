-- No text is longer than the bytes, and it stands in front of them.
use Prim.Native.Nat.{ℕ}
use mathlib.Core.Path.{subst}
use lib.ListN.{replicate, length-replicate}
use mathlib.Core.List.{List}
use Rattle.std.specs.Prelude.{OnOk}
use Rattle.std.specs.Io.KnownBytes.{Appends}
use Rattle.playback.proofs.Longest.{always_fits, in_front}
use Rattle.playback.proofs.answer.Goals as goal

pub unwrap-size-requires : goal.unwrap-size-requires
unwrap-size-requires g c = always_fits c.args.input.now (replicate 262162 0) c.keyplay.new.text c.keyplay.result c.keyplay.ensures (length-replicate {A = ℕ} 262162 0)

pub returns : goal.returns
returns g c =
    let front = in_front c.args.input.now (replicate 262162 0) c.keyplay.new.text c.keyplay.result c.keyplay.ensures (length-replicate {A = ℕ} 262162 0) c.unwrap-size.result c.unwrap-size.ensures in
    subst (λ (bytes : List ℕ). OnOk c.write_all.result (Appends (g.W.Write.contents c.args.out.now) (g.W.Write.contents c.write_all.new.self) bytes)) front c.write_all.ensures.bytes
