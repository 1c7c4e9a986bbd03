-- Pairs as numbers and as bytes: the numbers of all, each as bytes, are the bytes of all, so that pairs put number by number are
-- put at once.
use Prim.Native.Nat.{ℕ, ◌≤◌}
use native.Mathlib.Omega.{arith}
use mathlib.Core.Path.{◌≡◌, refl, sym, ap, ◌∙◌}
use mathlib.Core.List.{List, [], ◌∷◌, ◌++◌, map, append_assoc, flat_map}
use lib.ListN.{length}
use Rattle.std.specs.Prelude.{All}
use Rattle.std.proofs.lemmas.List.Elements.{All-map}
use Rattle.rules.specs.Values.{Pair}
use Rattle.rules.specs.Numbers.{bytes_of}
use Rattle.rules.specs.Run.{count_number, pair_bytes}
use Rattle.rules.specs.Writing.{in_bytes}
use Rattle.keypairs.specs.View.{pair_of}
use Rattle.mapparts.specs.View.{placed, put_all}
use Rattle.mapparts.proofs.Writing.{place_none, put_placed}
use Rattle.mapfile.specs.View.{bytes_of_pair, pair_numbers, Small}

pub pairs_append : (ps qs : List Pair) → pair_bytes (ps ++ qs) ≡ pair_bytes ps ++ pair_bytes qs
unfolding pair_bytes
pairs_append [] qs = refl
pairs_append (p ∷ ps) qs = ap (λ bs. bytes_of_pair p ++ bs) (pairs_append ps qs) ∙ sym (append_assoc (bytes_of_pair p) (pair_bytes ps) (pair_bytes qs))

numbers_bytes : (ps : List Pair) → in_bytes (pair_numbers ps) ≡ pair_bytes ps
unfolding in_bytes flat_map pair_bytes
numbers_bytes [] = refl
numbers_bytes (p ∷ ps) =
    let a = bytes_of p.action in
    let b = bytes_of (count_number p.context) in
    let d = bytes_of p.context.mark in
    ap (λ bs. a ++ (b ++ (d ++ bs))) (numbers_bytes ps) ∙ sym (append_assoc (a ++ b) d (pair_bytes ps) ∙ append_assoc a b (d ++ pair_bytes ps))

-- the pairs of words have small numbers
word_small : (w : ℕ) → Small (pair_of w)
unfolding pair_of
word_small w = (omega arith, omega arith, omega arith)

pub words_small : (ws : List ℕ) → All Small (map pair_of ws)
words_small ws = All-map Small pair_of ws (λ k d h. word_small _)

-- ---- written

-- from a place of the output on, pairs are put at once
pub pairs_placed : (ps : List Pair) (at : ℕ) (out : List ℕ) → at ≤ length out → put_all (pair_numbers ps) (at, out) ≡ placed (pair_bytes ps) (at, out)
unfolding pair_bytes flat_map put_all
pairs_placed [] at out h = sym (place_none at out h)
pairs_placed (p ∷ ps) at out h = put_placed _ _ at out ∙ ap (λ bs. placed bs (at, out)) (numbers_bytes (p ∷ ps))
