-- The words that the definitions are written in: choice, refusal, tests on lists and on what may be missing.
use Rattle.std.specs.Prelude.{ℕ, Bool, true, false, ◌&&◌, ◌||◌, List, [], ◌∷◌}
use Rattle.std.proofs.Math.Option.{Option, none, some}

infixl 5 ◌>>=◌
-- ---- refusal

-- What a call comes to: a value, or the number of the refusal. A refusal carries no state, so it can leave none changed
pub data Result (A : Type 0) : Type 0 where
  accept : A → Result A
  refuse : ℕ → Result A

-- `do x ← r; …` goes on with the value, and stops at the first refusal met
abbrev pub ◌>>=◌ : {A B : Type 0} → Result A → (A → Result B) → Result B
◌>>=◌ (accept a) f = f a
◌>>=◌ (refuse n) f = refuse n

-- the refusal n unless the test holds
abbrev pub unless : {A : Type 0} → Bool → ℕ → Result A → Result A
unless true n r = r
unless false n r = refuse n

-- ---- lists

module _ {A : Type 0} where
  unfoldable pub every : (A → Bool) → List A → Bool
  every p [] = true
  every p (x ∷ xs) = p x && every p xs

  unfoldable pub some_of : (A → Bool) → List A → Bool
  some_of p [] = false
  some_of p (x ∷ xs) = p x || some_of p xs

-- ---- what may be missing

-- the test holds of the number, if there is one
unfoldable pub present : (ℕ → Bool) → Option ℕ → Bool
present p none = true
present p (some n) = p n

abbrev pub is_there : {A : Type 0} → Option A → Bool
is_there none = false
is_there (some a) = true

-- the first of two that is there
abbrev pub or_else : {A : Type 0} → Option A → Option A → Option A
or_else (some a) o = some a
or_else none o = o

-- ---- everything above, to be opened by one name where a run is computed
unfoldable pub open-Basics : Unit {0}
unfolding every some_of present
open-Basics = tt
