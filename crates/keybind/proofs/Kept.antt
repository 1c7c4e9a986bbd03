-- A binding call is its work on the graph, and then the keeping; and only a call in range is accepted.
use mathlib.Core.Path.{◌≡◌, refl}
use mathlib.Core.Bool.{true}
use mathlib.Core.List.{List}
use Prim.Native.Nat.{ℕ}
use native.Mathlib.Omega.{arith}
use Rattle.rules.specs.Basics.{Result, accept, refuse, ◌>>=◌}
use Rattle.rules.specs.Values.{Binding, Maps, Prefixes, binding_valid}
use Rattle.rules.specs.Graph.{Graph}
use Rattle.rules.specs.KeyLoop.{State}
use Rattle.rules.specs.Calls.{Machine, graph_kind, keep, map_call, prefix_call, bind}
use Rattle.keptcalls.specs.View.{machine_with, graph_part}

bind_is : (call : Binding) (m : Machine graph_kind) → (graph_part call m.bindings >>= keep graph_kind call m) ≡ bind graph_kind call m
unfolding graph_part bind map_call prefix_call
bind_is (Maps mode path st) m = refl
bind_is (Prefixes mode path st) m = refl

in_range : (call : Binding) (g g₀ : Graph) → accept g ≡ graph_part call g₀ → binding_valid call ≡ true
unfolding graph_part binding_valid
in_range (Maps mode path st) g g₀ h = grind arith
in_range (Prefixes mode path st) g g₀ h = grind arith

module _ (call : Binding) (g₀ : Graph) (before : List Binding) (x : State ℕ) where
  pub bind_refused : (n : ℕ) → refuse n ≡ graph_part call g₀ → refuse n ≡ bind graph_kind call (machine_with g₀ before x)
  bind_refused n h = rw (← bind_is call (machine_with g₀ before x), ← h)

  -- what the graph accepts is in range, and then the rules' keeping is what is left of the call
  pub bind_kept : (g : Graph) → accept g ≡ graph_part call g₀ → (y : Result (Machine graph_kind)) → (binding_valid call ≡ true → y ≡ keep graph_kind call (machine_with g₀ before x) g)
      → y ≡ bind graph_kind call (machine_with g₀ before x)
  bind_kept g h y k = rw (← bind_is call (machine_with g₀ before x), ← h) (k (in_range call g g₀ h))
