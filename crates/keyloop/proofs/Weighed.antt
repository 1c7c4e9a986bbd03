-- Why 129 places are enough for the stack. A key of 16 bits decomposes once at most, so the keys of a full trail and one more
-- weigh 130 at most. By the rules' law of a round (`round_bounded`) the keys to try and those on the trail never weigh more, and
-- the keys to try alone weigh less.
use Prim.Native.Nat.{ℕ, ◌*◌, ◌/◌, ◌≤◌, ◌<◌, min}
use mathlib.Core.Path.{◌≡◌, refl}
use mathlib.Core.List.{List, ◌∷◌}
use native.Mathlib.Omega.{arith}
use lib.ListN.{length}
use Rattle.rules.specs.Basics.{accept}
use Rattle.rules.specs.Tables.{Tables}
use Rattle.rules.specs.KeyLoop.{Shared, InputResult, Turn, Navigator, State, round}
use Rattle.rules.proofs.Weights.{weight_by, weight_most, each_any}
use Rattle.rules.proofs.Results.{Always, accepts, value, always_bind, hook_keeps}
use Rattle.rules.proofs.Rounds.{Bounded, round_bounded}
use Rattle.rules.proofs.Reached.{any_number}
use Rattle.keyloop.specs.View.{turned}

-- whatever the key's number is: at most 1
abbrev pub splits : ℕ → ℕ
splits k = min 1 (k / 32768)

abbrev pub weight : List ℕ → ℕ
weight = weight_by splits

pub weight_twice : (xs : List ℕ) → weight xs ≤ 2 * length xs
weight_twice xs = weight_most splits xs (each_any (λ k. omega arith) xs)

-- a turn, with the event hook, leaves the trail as it is
pub turned_trail : (t : Turn ℕ) (k : ℕ) (c : Shared) (x : InputResult) (m : State ℕ) → accept (x, m) ≡ turned t k c → m.shared.trail ≡ c.trail
turned_trail t k c x m e =
    let a : Always any_number (λ r. r.1.shared.trail ≡ c.trail) (turned t k c)
    = always_bind (always_bind (hook_keeps tt (λ _ _ tr. tr ≡ c.trail) t.event k c refl) (λ c₁ h. accepts h)) (λ m h. accepts h) in
    value (rw (← e) at a)

-- of the keys themselves nothing is asked
abbrev pub Light : Tables → List ℕ → State ℕ → Type 0
Light t ks m = Bounded splits t 130 64 (λ k. Unit {0}) ks m

pub light_on : (nav : Navigator ℕ) (t : Tables) (k : ℕ) (ks ls : List ℕ) (m m' : State ℕ) → k < 65536 → Light t (k ∷ ks) m → accept (ls, m') ≡ round nav k ks m → Light t ls m'
light_on nav t k ks ls m m' small h e =
    let a : Always any_number (λ r. Light t r.0 r.1) (round nav k ks m)
    = round_bounded nav tt tt tt tt splits t 130 64 (omega arith) (λ k. Unit {0}) tt (λ k h. tt) k (λ big. omega (arith, small, big)) ks m h in
    value (rw (← e) at a)
