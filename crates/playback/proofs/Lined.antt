-- A text that is put by one call behind another is put at once: behind a page that was reached the next part is placed, and behind a
-- refusal nothing is.
use Prim.Native.Nat.{ℕ}
use mathlib.Core.Path.{◌≡◌, sym, ap, ◌∙◌}
use mathlib.Core.List.{List, [], ◌∷◌, ◌++◌}
use Rattle.rules.specs.Basics.{accept}
use Rattle.rules.specs.Values.{Context, Pair}
use Rattle.rules.specs.Run.{decimal, count_text, line_of, lines_of, heading, refusal, text_of}
use Rattle.mapparts.specs.View.{Page, placed}
use Rattle.mapparts.proofs.Writing.{placed_append, then_put, then_on, then_stop}

joined : (xs ys : List ℕ) (p : Page) → placed (xs ++ ys) p ≡ then_put placed (placed xs p) ys
unfolding then_put
joined xs ys p = sym (placed_append xs ys p.0 p.1)

pub column_parts : (v : ℕ) (p : Page) → placed (0x20 ∷ decimal 5 v) p ≡ then_put placed (placed (0x20 ∷ []) p) (decimal 5 v)
column_parts v p = joined (0x20 ∷ []) (decimal 5 v) p

pub line_parts : (a : ℕ) (c : Context) (p : Page) → placed (line_of (record { action = a; context = c })) p ≡ then_put placed (then_put placed (then_put placed (placed (decimal 5 a) p) (0x20 ∷ count_text c)) (0x20 ∷ decimal 5 c.mark)) (0x0A ∷ [])
unfolding line_of
line_parts a c p =
    let x : List ℕ = decimal 5 a in
    let y : List ℕ = 0x20 ∷ count_text c in
    let z : List ℕ = 0x20 ∷ decimal 5 c.mark in
    joined (x ++ y ++ z) (0x0A ∷ []) p
    ∙ ap (λ r. then_put placed r (0x0A ∷ [])) (joined (x ++ y) z p ∙ ap (λ r. then_put placed r z) (joined x y p))

-- the bytes "refused "
abbrev word : List ℕ
word = 0x72 ∷ 0x65 ∷ 0x66 ∷ 0x75 ∷ 0x73 ∷ 0x65 ∷ 0x64 ∷ 0x20 ∷ []

pub refusal_parts : (k : ℕ) (p : Page) → placed (refusal k) p ≡ then_put placed (then_put placed (placed word p) (decimal 5 k)) (0x0A ∷ [])
unfolding refusal
refusal_parts k p = joined (word ++ decimal 5 k) (0x0A ∷ []) p ∙ ap (λ r. then_put placed r (0x0A ∷ [])) (joined word (decimal 5 k) p)

-- the bytes of the heading
abbrev pub title : List ℕ
title = 0x61 ∷ 0x63 ∷ 0x74 ∷ 0x69 ∷ 0x6F ∷ 0x6E ∷ 0x20 ∷ 0x63 ∷ 0x6F ∷ 0x75 ∷ 0x6E ∷ 0x74 ∷ 0x20 ∷ 0x6D ∷ 0x61 ∷ 0x72 ∷ 0x6B ∷ 0x0A ∷ []

pub text_parts : (ps : List Pair) (p : Page) → placed (text_of (accept ps)) p ≡ then_put placed (placed title p) (lines_of ps)
unfolding text_of heading
text_parts ps p = joined title (lines_of ps) p

-- what is put by one call behind another
pub ruleset parts_placed = (then_on, then_stop, column_parts, line_parts, refusal_parts, text_parts)
