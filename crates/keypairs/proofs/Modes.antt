-- A step with neither action nor next mode stays. Any other gives its actions, or action 0 if it has none, and enters.
use Prim.Native.Nat.{ℕ}
use mathlib.Core.Path.{◌≡◌, refl, sym}
use mathlib.Core.List.{List, [], ◌∷◌}
use native.Mathlib.Omega.{arith}
use lib.ListN.{length}
use mathlib.Core.Bool.{true, false}
use mathlib.Core.Option
use lib.Dec.{eqb}
use borrow.Author.Tests.{eqb-true}
use Rattle.std.specs.Prelude
use Rattle.std.specs.Prelude.{Some, None}
use Rattle.std.specs.Option.{unwrap_or, is_some}
use Rattle.rules.specs.Basics.{accept}
use Rattle.rules.specs.Graph.{Graph}
use Rattle.rules.specs.Calls.{graph_navigator}
use Rattle.rules.specs.KeyLoop.{State, or_default, step_to}
use Rattle.keyvalues.specs.View.{maybe_of}
use Rattle.keypairs.specs.View.{give_goto}

pub next_is : (o : Prelude.Option ℕ) (mode : ℕ) → unwrap_or o mode ≡ Option.get_or (maybe_of o) mode
next_is None mode = refl
next_is (Some k) mode = refl

module _ (g : Graph) (m : State ℕ) where
  pub step_stays : (acts : List ℕ) (next : Prelude.Option ℕ) → true ≡ eqb (length acts) 0 → is_some next ≡ false → accept m ≡ step_to (graph_navigator g) acts (maybe_of next) m
  unfolding step_to
  step_stays [] None a n = refl
  step_stays [] (Some k) a n = cc
  step_stays (x ∷ rest) next a n = let z : length (x ∷ rest) ≡ 0 = eqb-true (length (x ∷ rest)) 0 (sym a) in absurd (omega arith)

  pub step_enters : (acts : List ℕ) (next : Prelude.Option ℕ) → is_some next ≡ true → give_goto g acts (maybe_of next) m.shared ≡ step_to (graph_navigator g) acts (maybe_of next) m
  unfolding step_to or_default
  step_enters acts None n = cc
  step_enters [] (Some k) n = refl
  step_enters (x ∷ rest) (Some k) n = refl

  pub step_gives : (acts : List ℕ) (next : Prelude.Option ℕ) → false ≡ eqb (length acts) 0 → give_goto g acts (maybe_of next) m.shared ≡ step_to (graph_navigator g) acts (maybe_of next) m
  unfolding step_to or_default
  step_gives [] next a = cc
  step_gives (x ∷ rest) next a = refl
