-- What `keymap.h` takes apart is what was put together: its macros give the rounds and the refusal, the three numbers of a
-- pair and whether its count was typed, the node that was found, and the nodes that are left. A refusal is below 32, and an
-- action, a count and a mark are below 2^16.
use Rattle.std.specs.Prelude.{if◌then◌else◌}
use native.Mathlib.Omega.{arith}
use Prim.Native.Nat.{ℕ, ◌+◌, ◌-◌, ◌*◌, ◌/◌, ◌%◌, ◌<◌}
use mathlib.Core.Path.{◌≡◌, refl, ap, ◌∙◌}
use mathlib.Core.Bool.{Bool, true, false}
use mathlib.Core.Option.{some}
use Rattle.rules.specs.Basics.{accept}
use Rattle.rules.specs.Values.{pair}
use Rattle.rules.specs.Calls.{Popped, PressRefused}
use Rattle.keymap.specs.Codes.{answer_code, find_code}

pub press_parts : (n rounds : ℕ) → n < 32 → (answer_code (PressRefused n rounds) / 32 ≡ rounds) × (answer_code (PressRefused n rounds) % 32 ≡ n)
press_parts n rounds h = (omega (arith, h), omega (arith, h))

pub find_parts : (node : ℕ) → (find_code (accept (some node)) / 32 - 1 ≡ node) × (find_code (accept (some node)) % 32 ≡ 0) × (0 < find_code (accept (some node)))
find_parts node = (omega arith, omega arith, omega arith)

pub free_parts : (left : ℕ) → (left * 32 / 32 ≡ left) × (left * 32 % 32 ≡ 0)
free_parts left = (omega arith, omega arith)

-- whether the count was typed, as a number
abbrev pub bit : Bool → ℕ
bit true = 1
bit false = 0

bit_there : (typed : Bool) → (if typed then 562949953421312 else 0) ≡ bit typed * 562949953421312
bit_there true = refl
bit_there false = refl

module _ (a c m : ℕ) (typed : Bool) (ha : a < 65536) (hc : c < 65536) (hm : m < 65536) where
  abbrev w : ℕ
  w = answer_code (Popped (pair a c typed m))

  abbrev t : ℕ
  t = bit typed

  action_is : w % 65536 ≡ a
  action_is = omega (arith, ha, bit_there typed)

  above : w / 65536 ≡ c + 65536 * (m + 65536 * (1 + 2 * t))
  above = omega (arith, ha, bit_there typed)

  count_is : w / 65536 % 65536 ≡ c
  count_is = ap (λ x. x % 65536) above ∙ omega (arith, hc)

  top : w / 4294967296 ≡ m + 65536 * (1 + 2 * t)
  top = omega (arith, ha, hc, bit_there typed)

  mark_is : w / 4294967296 % 65536 ≡ m
  mark_is = ap (λ x. x % 65536) top ∙ omega (arith, hm)

  typed_is : w / 562949953421312 ≡ t
  typed_is = omega (arith, ha, hc, hm, bit_there typed)

  pub pair_parts : (w % 65536 ≡ a) × ((w / 65536 % 65536 ≡ c) × ((w / 4294967296 % 65536 ≡ m) × (w / 562949953421312 ≡ t)))
  pair_parts = (action_is, (count_is, (mark_is, typed_is)))
