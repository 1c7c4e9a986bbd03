-- Document 01, "Map file and run": a number as bytes, read and written.
use Rattle.std.specs.Prelude.{ℕ, ◌+◌, ◌-◌, ◌*◌, ◌/◌, ◌%◌, Bool, true, false, not, ◌&&◌, List, [], ◌∷◌, leb, ltb, eqb, if◌then◌else◌}
use Rattle.rules.specs.Basics.{Result, accept, refuse, ◌>>=◌, unless}
use Rattle.rules.specs.Values.{largest}

-- seven bits of each byte, the lowest first, up to the first byte without 80; and the bytes after them. 9 the bytes end early
unfoldable pub groups : List ℕ → Result (List ℕ × List ℕ)
groups [] = refuse 9
groups (b ∷ bs) =
    if ltb b 0x80
    then accept (b ∷ [], bs)
    else (do r ← groups bs; accept ((b - 0x80) ∷ r.0, r.1))

unfoldable pub value_of : List ℕ → ℕ
value_of [] = 0
value_of (g ∷ gs) = g + 128 * value_of gs

unfoldable pub last_group : ℕ → List ℕ → ℕ
last_group g [] = g
last_group g (h ∷ gs) = last_group h gs

-- the shortest form: the last of several groups is not 0
unfoldable pub shortest : List ℕ → Bool
shortest [] = true
shortest (g ∷ []) = true
shortest (g ∷ h ∷ gs) = not (eqb (last_group h gs) 0)

-- at most `most`, in the shortest form, else 9
unfoldable pub number_up_to : ℕ → List ℕ → Result (ℕ × List ℕ)
number_up_to most bs = do
  r ← groups bs
  unless (shortest r.0 && leb (value_of r.0) most) 9 (accept (value_of r.0, r.1))

unfoldable pub number : List ℕ → Result (ℕ × List ℕ)
number bs = number_up_to largest bs

-- writing: one group, two, or three
unfoldable pub bytes_of : ℕ → List ℕ
bytes_of n =
    if ltb n 128 then n ∷ []
    else (if ltb n 16384 then (n % 128 + 0x80) ∷ n / 128 ∷ [] else (n % 128 + 0x80) ∷ (n / 128 % 128 + 0x80) ∷ n / 16384 ∷ [])

-- ---- everything above, to be opened by one name where a run is computed
unfoldable pub open-Numbers : Unit {0}
unfolding groups value_of last_group shortest number_up_to number bytes_of
open-Numbers = tt
