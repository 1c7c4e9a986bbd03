-- A round is one step of `loop`: the budget is one less, and the keys to try are those that it left. So what is left comes to what
-- the whole comes to, with any navigator.
use Prim.Native.Nat.{ℕ, zero, suc, ◌+◌, ◌-◌, ◌≤◌, ◌<◌}
use mathlib.Core.Path.{◌≡◌, refl}
use mathlib.Core.Bool.{Bool, true, false}
use mathlib.Core.List.{List, [], ◌∷◌}
use native.Mathlib.Omega.{arith}
use native.Mathlib.Numerals.{add-one}
use lib.Dec.{ltb}
use lib.ListN.{length}
use Rattle.rules.specs.Basics.{Result, accept, refuse, ◌>>=◌, unless}
use Rattle.rules.specs.KeyLoop.{Shared, Turn, State, KeyResult, Navigator, InputResult, NeedMore, at, run_hook, after, round, proceed, loop}
use Rattle.keypairs.specs.View.{joined}
use Rattle.keyloop.specs.View.{turned}
use Rattle.keyloop.proofs.Navigators.{beside}

abbrev pub stopped : ℕ → ℕ → KeyResult ℕ
stopped r n = record { rounds = r; result = refuse n }

abbrev pub finished : ℕ → State ℕ → KeyResult ℕ
finished r m = record { rounds = r; result = accept m }

module _ (nav : Navigator ℕ) where
  -- the keys to try have a first
  module _ (B r k : ℕ) (ks₀ ks : List ℕ) (m : State ℕ) (is : ks₀ ≡ k ∷ ks) where
    pub loop_go : (ls : List ℕ) (m' : State ℕ) → r < B → accept (ls, m') ≡ round nav k ks m → loop nav (B - (r + 1)) (r + 1) ls m' ≡ loop nav (B - r) r ks₀ m
    unfolding loop proceed
    loop_go ls m' h e = let q : B - r ≡ suc (B - suc r) = omega arith in rw (is, q, ← e, add-one)

    pub loop_stop : (n : ℕ) → r < B → refuse n ≡ round nav k ks m → stopped (r + 1) n ≡ loop nav (B - r) r ks₀ m
    unfolding loop proceed
    loop_stop n h e = let q : B - r ≡ suc (B - suc r) = omega arith in rw (is, q, ← e, add-one)

    pub loop_out : B ≤ r → r ≤ B → stopped B 8 ≡ loop nav (B - r) r ks₀ m
    unfolding loop
    loop_out h l = let q : B - r ≡ 0 = omega arith in let e : r ≡ B = omega arith in rw (is, q, e)

  -- and have none
  pub loop_done : (b r : ℕ) (ks₀ : List ℕ) (m : State ℕ) → ks₀ ≡ [] → finished r m ≡ loop nav b r ks₀ m
  unfolding loop
  loop_done zero r ks₀ m is = rw is
  loop_done (suc b) r ks₀ m is = rw is

  -- a round is its turn, with the event hook, and what follows
  module _ (k : ℕ) (ks : List ℕ) (m : State ℕ) where
    abbrev the_turn : Turn ℕ
    the_turn = nav.turn m.shared.tables.classes m.place k

    round_turned : round nav k ks m ≡ (turned the_turn k m.shared >>= λ r. after nav r.0 k ks r.1)
    unfolding round
    round_turned = go (run_hook the_turn.event k m.shared)
      where
        done : Result (State ℕ) → Result (InputResult × State ℕ)
        done x = x >>= λ m. accept (the_turn.result, m)

        go : (x : Result Shared) → (x >>= λ c. after nav the_turn.result k ks (at the_turn.place c))
            ≡ (done (x >>= λ c. accept (at the_turn.place c)) >>= λ r. after nav r.0 k ks r.1)
        go (accept c) = refl
        go (refuse n) = refl

    pub round_is : (x : InputResult) (m' : State ℕ) → accept (x, m') ≡ turned the_turn k m.shared → after nav x k ks m' ≡ round nav k ks m
    round_is x m' e = rw (round_turned, ← e) refl

    pub round_refused : (n : ℕ) → refuse n ≡ turned the_turn k m.shared → refuse n ≡ round nav k ks m
    round_refused n e = rw (round_turned, ← e) refl

-- a key that needs more joins the trail
pub needs_more : (nav : Navigator ℕ) (k : ℕ) (ks : List ℕ) (m : State ℕ) → beside ks (joined k m) ≡ after nav NeedMore k ks m
unfolding after
needs_more nav k ks m = pick (ltb (length m.shared.trail) 64) _
  where
    pick : (b : Bool) (u : State ℕ) → beside ks (unless b 7 (accept u)) ≡ unless b 7 (accept (ks, u))
    pick true u = refl
    pick false u = refl
