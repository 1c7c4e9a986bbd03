-- What is made of the bytes that were read is made of the first bytes that there were.
use Prim.Native.Nat.{ℕ}
use mathlib.Core.Path.{◌≡◌, subst}
use mathlib.Core.List.{List}
use lib.ListN.{take}
use Rattle.std.specs.Prelude as Prelude
use Rattle.std.specs.Prelude.{Ok, Err, Some, None, IfOk, IfSome}

pub served : {E : Type 0} (r : Prelude.Result (Unit {0}) E) (o : Prelude.Option (List ℕ)) (most : ℕ) (items : List ℕ) (P : List ℕ → Type 0) → P items → IfSome o (λ bytes. items ≡ take most bytes) → IfOk r (λ _. IfSome o (λ bytes. P (take most bytes)))
served (Ok u) (Some bytes) most items P h e = subst P e h
served (Ok u) None most items P h e = tt
served (Err f) o most items P h e = tt
