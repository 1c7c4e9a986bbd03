-- Keys put back before those of the stack.
use Prim.Native.Nat.{ℕ, ◌+◌, ◌-◌, ◌≤◌}
use mathlib.Core.Path.{◌≡◌, sym, ap, ◌∙◌}
use mathlib.Core.List.{List, [], ◌∷◌, ◌++◌, append_assoc}
use native.Mathlib.Omega.{arith}
use lib.ListN.{length, take, drop}
use lib.Seq.{drop_at, drop-drop, length-take-le, take_all}

-- the part from a place up to the top is replaced
pub put_mid_is : (keys rest : List ℕ) (at top : ℕ) → at ≤ top → top ≤ length keys → drop at (take at keys ++ (rest ++ drop (top - at) (drop at keys))) ≡ rest ++ drop top keys
put_mid_is keys rest at top h l =
    let a : at ≤ length keys = omega arith in
    let s : at + (top - at) ≡ top = omega arith in
    drop_at (take at keys) (rest ++ drop (top - at) (drop at keys)) at (length-take-le at keys a)
    ∙ ap (λ (z : List ℕ). rest ++ z) (drop-drop (top - at) at keys ∙ ap (λ (n : ℕ). drop n keys) s)

-- a trail without its first key, and then a key
pub behind_first : (trail old : List ℕ) (key : ℕ) → 1 ≤ length trail → take (length trail - 1) (drop 1 trail) ++ (key ∷ old) ≡ drop 1 (trail ++ (key ∷ [])) ++ old
behind_first [] old key h = absurd (omega arith)
behind_first (x ∷ trail) old key h =
    let n : length trail ≤ length (x ∷ trail) - 1 = omega arith in
    ap (λ (z : List ℕ). z ++ (key ∷ old)) (take_all (length (x ∷ trail) - 1) trail n) ∙ sym (append_assoc trail (key ∷ []) old)
