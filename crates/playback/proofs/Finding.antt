-- A pair that was written is read back, since its numbers have 16 bits: where its count was not typed, with a count of 0, and in
-- any case with the same line. So pairs that were written are read one after another, and putting the lines of those that are left
-- puts the lines of all.
use Prim.Native.Nat.{ℕ, ◌≤◌, ◌<◌}
use native.Mathlib.Omega.{arith}
use mathlib.Core.Path.{◌≡◌, refl, sym, ap, ◌∙◌}
use mathlib.Core.List.{List, [], ◌∷◌, ◌++◌, append_assoc}
use lib.ListN.{length, length-append}
use Rattle.rules.specs.Basics.{Result, accept, refuse}
use Rattle.rules.specs.Values.{Pair}
use Rattle.rules.specs.Numbers.{bytes_of}
use Rattle.rules.specs.Run.{count_number, numbered, pair_bytes, decimal, line_of, lines_of}
use Rattle.mapparts.specs.View.{Page, placed}
use Rattle.mapparts.proofs.Writing.{place_more, place_stop, place_none}
use Rattle.mapparts.proofs.KeyBytes.{shorter}
use Rattle.std.specs.List.{All}
use Rattle.std.proofs.lemmas.List.Elements.{All-head, All-tail}
use Rattle.mapfile.specs.View.{Small}
use Rattle.mapfile.proofs.Round.{read_back}
use Rattle.rules.proofs.Counts.{count_read_back, same_text}
use Rattle.playback.specs.View.{read_pair}

-- as it is read back
abbrev back : Pair → Pair
back p = record { action = p.action; context = numbered (count_number p.context) p.context.mark }

same_line : (p : Pair) → line_of (back p) ≡ line_of p
unfolding line_of numbered
same_line p = ap (λ t. decimal 5 p.action ++ (0x20 ∷ t) ++ (0x20 ∷ decimal 5 p.context.mark) ++ (0x0A ∷ [])) (same_text p.context)

pair_back : (p : Pair) (rest : List ℕ) → Small p → read_pair (bytes_of p.action ++ bytes_of (count_number p.context) ++ bytes_of p.context.mark ++ rest) ≡ accept (back p, rest)
pair_back p rest h =
    let a = bytes_of p.action in
    let c = bytes_of (count_number p.context) in
    let m = bytes_of p.context.mark in
    rw (append_assoc (a ++ c) m rest, append_assoc a c (m ++ rest), read_back p.action (c ++ (m ++ rest)) h.0, count_read_back p.context (m ++ rest) h.1, read_back p.context.mark rest h.2) refl

-- a number has a byte at least
some : (n : ℕ) → n ≤ 65535 → 0 < length (bytes_of n)
some n h = omega (arith, shorter (bytes_of n ++ []) [] n (sym (read_back n [] h)), length-append (bytes_of n) [])

-- the bytes are those of the pairs `rest`, and putting their lines now puts the lines of all
pub record Left (ps : List Pair) (start : Page) (bytes : List ℕ) (now : Page) : Type 0 where
  pub rest : List Pair
  pub there : bytes ≡ pair_bytes rest
  pub small : All Small rest
  pub whole : placed (lines_of rest) now ≡ placed (lines_of ps) start

module _ (ps : List Pair) (start : Page) where
  pub left_all : (bytes : List ℕ) → bytes ≡ pair_bytes ps → All Small ps → Left ps start bytes start
  left_all bytes e h = record { rest = ps; there = e; small = h; whole = refl }

  module _ (bytes : List ℕ) (now : Page) (l : Left ps start bytes now) where
    -- the next pair, and those behind it
    pub record Next : Type 0 where
      pub pair : Pair
      pub rest : List Pair
      pub read : read_pair bytes ≡ accept (back pair, pair_bytes rest)
      pub small : All Small rest
      pub whole : placed (lines_of (pair ∷ rest)) now ≡ placed (lines_of ps) start

    pub next : (length bytes ≡ 0 → ⊥) → Next
    unfolding pair_bytes
    next h = go l.rest l.there l.small l.whole
      where
        go : (rest : List Pair) → bytes ≡ pair_bytes rest → All Small rest → placed (lines_of rest) now ≡ placed (lines_of ps) start → Next
        go [] e s w = absurd (h (ap length e))
        go (p ∷ rest) e s w = record { pair = p; rest = rest; read = ap read_pair e ∙ pair_back p (pair_bytes rest) (All-head Small p rest s); small = All-tail Small p rest s; whole = w }

    pub left_bad : (n : ℕ) → (length bytes ≡ 0 → ⊥) → refuse n ≡ read_pair bytes → refuse n ≡ placed (lines_of ps) start
    left_bad n h e = let k : ◌≡◌ {A = Result (Pair × List ℕ)} (refuse n) (accept (back (next h).pair, pair_bytes (next h).rest)) = e ∙ (next h).read in absurd (cc)

    module _ (p : Pair) (more : List ℕ) (h : length bytes ≡ 0 → ⊥) (e : accept (p, more) ≡ read_pair bytes) where
      same : ◌≡◌ {A = Pair × List ℕ} (p, more) (back (next h).pair, pair_bytes (next h).rest)
      same = let k : ◌≡◌ {A = Result (Pair × List ℕ)} (accept (p, more)) (accept (back (next h).pair, pair_bytes (next h).rest)) = e ∙ (next h).read in cc

      line : line_of p ≡ line_of (next h).pair
      line = ap (λ (x : Pair × List ℕ). line_of x.0) same ∙ same_line (next h).pair

      pub left_next : (q : Page) → accept q ≡ placed (line_of p) now → Left ps start more q
      unfolding lines_of
      left_next q f = record {
        rest = (next h).rest;
        there = ap (λ (x : Pair × List ℕ). x.1) same;
        small = (next h).small;
        whole = place_more (line_of (next h).pair) (lines_of (next h).rest) now q (f ∙ ap (λ l. placed l now) line) ∙ (next h).whole;
      }

      pub left_stop : (n : ℕ) → refuse n ≡ placed (line_of p) now → refuse n ≡ placed (lines_of ps) start
      unfolding lines_of
      left_stop n f = place_stop (line_of (next h).pair) (lines_of (next h).rest) now n (f ∙ ap (λ l. placed l now) line) ∙ (next h).whole

    -- a pair has a byte at least
    pub left_none : length bytes ≡ 0 → now.0 ≤ length now.1 → accept now ≡ placed (lines_of ps) start
    unfolding pair_bytes lines_of
    left_none h n = go l.rest l.there l.small l.whole
      where
        go : (rest : List Pair) → bytes ≡ pair_bytes rest → All Small rest → placed (lines_of rest) now ≡ placed (lines_of ps) start → accept now ≡ placed (lines_of ps) start
        go [] e s w = sym (place_none now.0 now.1 n) ∙ w
        go (p ∷ rest) e s w = absurd (omega (arith, h, simp length-append at (ap length e), some p.action (All-head Small p rest s).0))
