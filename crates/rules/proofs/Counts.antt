-- Document 02, request (vii): the number of a count, written and read back. Why it holds: it is one of those up to 65,536, which
-- reading and writing take to each other, and it tells whether the count was typed and then what it was.
use Prim.Native.Nat.{ℕ, zero, suc, ◌+◌, ◌-◌, ◌≤◌}
use native.Mathlib.Omega.{arith}
use mathlib.Core.Path.{◌≡◌, refl}
use mathlib.Core.Bool.{Bool, true, false, ◌||◌}
use mathlib.Core.List.{List, [], ◌∷◌, ◌++◌}
use lib.Dec.{ltb}
use borrow.Author.Tests.{lt-ltb}
use Rattle.std.specs.Prelude.{if◌then◌else◌}
use Rattle.rules.specs.Basics.{accept}
use Rattle.rules.specs.Values.{largest, Context, merge, no_context}
use Rattle.rules.specs.Numbers.{number_up_to, bytes_of}
use Rattle.rules.specs.Run.{most_count, count_number, numbered, decimal, count_text}
use Rattle.rules.proofs.Numbers.{Bytes, read_written, written_read}

abbrev context : (count : ℕ) → Bool → (mark : ℕ) → Context
context count typed mark = record { count = count; typed = typed; mark = mark }

-- What is written for a count is read back
pub count_read_back : (c : Context) (rest : List ℕ) → c.count ≤ largest → number_up_to most_count (bytes_of (count_number c) ++ rest) ≡ accept (count_number c, rest)
unfolding count_number
count_read_back c rest h = go c.typed
  where
    go : (typed : Bool) → let n = if typed then c.count + 1 else 0 in number_up_to most_count (bytes_of n ++ rest) ≡ accept (n, rest)
    go true = read_written most_count (c.count + 1) rest (omega (arith, h)) (omega arith) (omega (arith, h))
    go false = read_written most_count 0 rest (omega arith) (omega arith) (omega arith)

-- a number is that of the context that is made of it
number_back : (n mark : ℕ) → count_number (numbered n mark) ≡ n
unfolding count_number numbered
number_back zero mark = refl
number_back (suc n) mark = rw (lt-ltb 0 (suc n) (omega arith)) (omega arith)

-- and whatever is read for a count is what is written for it
pub count_written_back : (bs rest : List ℕ) (n mark : ℕ) → Bytes bs → number_up_to most_count bs ≡ accept (n, rest) → bs ≡ bytes_of (count_number (numbered n mark)) ++ rest
count_written_back bs rest n mark h e = rw (number_back n mark) (written_read most_count (omega arith) (omega arith) n rest bs h e)

-- a count that was not typed is 0: so it is in every context of a machine that calls lead to (Untyped)
abbrev pub UntypedIs0 : Context → Type 0
UntypedIs0 c = c.typed ≡ false → c.count ≡ 0

-- Such a context is that of its number and mark
pub context_back : (c : Context) → UntypedIs0 c → numbered (count_number c) c.mark ≡ c
unfolding count_number numbered
context_back c h = go c.count c.typed h
  where
    go : (count : ℕ) (typed : Bool) → (typed ≡ false → count ≡ 0)
        → numbered (if typed then count + 1 else 0) c.mark ≡ context count typed c.mark
    go count true h = let e : count + 1 - 1 ≡ count = omega arith in rw (e, lt-ltb 0 (count + 1) (omega arith)) refl
    go count false h = rw (h refl) refl

-- and in any case it has the same text
pub same_text : (c : Context) → count_text (numbered (count_number c) c.mark) ≡ count_text c
unfolding count_number numbered count_text
same_text c = go c.count c.typed
  where
    go : (count : ℕ) (typed : Bool) → let n = if typed then count + 1 else 0 in (if ltb 0 n then decimal 5 (n - 1) else 0x2D ∷ []) ≡ (if typed then decimal 5 count else 0x2D ∷ [])
    go count true = let e : count + 1 - 1 ≡ count = omega arith in rw (lt-ltb 0 (count + 1) (omega arith), e) refl
    go count false = refl

-- A default context overrides nothing
pub default_overrides_nothing : (c : Context) → merge c no_context ≡ c
unfolding merge no_context
default_overrides_nothing c = go c.typed
  where
    go : (typed : Bool) → context c.count (typed || false) c.mark ≡ context c.count typed c.mark
    go true = refl
    go false = refl
