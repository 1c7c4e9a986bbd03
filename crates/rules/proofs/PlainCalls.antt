-- Which calls demand 3 is about, said beside the test `plain`: all but a prefix; a mapping only if each part of its path is a key, a
-- class or any-key taken once; and a change of map only if its bindings are such mappings. They are the same calls, by cases on the
-- call.
use Prim.Native.Nat.{ℕ}
use mathlib.Core.Option.{Option}
use mathlib.Core.List.{List, [], ◌∷◌}
use mathlib.Core.Logic.{◌↔◌}
use lib.Dec.{T}
use Rattle.rules.specs.Basics.{every}
use Rattle.rules.specs.Values.{Event, Key, Class, Any, Fallthrough, Repeat, Once, Min, Max, Part, Step, Binding, Maps, Prefixes, Context}
use Rattle.rules.specs.Tables.{Tables}
use Rattle.rules.specs.KeyLoop.{Input}
use Rattle.rules.specs.Calls.{Call, Open, Map, Prefix, Press, Pop, Repeats, Reset, Change}
use Rattle.rules.specs.ListReader.{plain_part, plain_binding, plain}
use Rattle.rules.proofs.Table.{once}
use Rattle.rules.proofs.Tests.{T_and, and_T}
use Rattle.rules.proofs.Weights.{Each}

-- a part of a path: a key, a class or any-key, once
pub data PlainPart : Part → Type 0 where
  a_key : (k : ℕ) → PlainPart (once (Key k))
  a_class : (c : ℕ) → PlainPart (once (Class c))
  any_key : PlainPart (once Any)

-- a binding: a mapping of which each part is such
pub data PlainBinding : Binding → Type 0 where
  maps : (mode : ℕ) (path : List Part) (s : Step) → Each PlainPart path → PlainBinding (Maps mode path s)

-- a call: any but a prefix, and of a mapping and of a change each binding is such
pub data Plain : Call → Type 0 where
  opens : (t : Tables) → Plain (Open t)
  binds : (mode : ℕ) (path : List Part) (s : Step) → PlainBinding (Maps mode path s) → Plain (Map mode path s)
  presses : (i : Input) → Plain (Press i)
  pops : Plain Pop
  repeats : (q : ℕ) (over : Option Context) → Plain (Repeats q over)
  resets : Plain Reset
  changes : (t : Tables) (xs : List Binding) → Each PlainBinding xs → Plain (Change t xs)

-- The theorem: the calls of demand 3 are these
pub plain_calls : (c : Call) → T (plain c) ↔ Plain c
unfolding plain plain_binding plain_part every
plain_calls c = (to c, from)
  where
    to_part : (r : Repeat) (e : Event) → T (plain_part r e) → PlainPart (record { repeat = r; event = e })
    to_part Once (Key k) h = a_key k
    to_part Once (Class c) h = a_class c
    to_part Once Any h = any_key
    to_part Once Fallthrough h = absurd h
    to_part (Min n) e h = absurd h
    to_part (Max n) e h = absurd h

    from_part : {p : Part} → PlainPart p → T (plain_part p.repeat p.event)
    from_part (a_key k) = tt
    from_part (a_class c) = tt
    from_part any_key = tt

    to_path : (ps : List Part) → T (every (λ p. plain_part p.repeat p.event) ps) → Each PlainPart ps
    to_path [] h = tt
    to_path (p ∷ ps) h = let k = T_and (plain_part p.repeat p.event) _ h in (to_part p.repeat p.event k.0, to_path ps k.1)

    from_path : (ps : List Part) → Each PlainPart ps → T (every (λ p. plain_part p.repeat p.event) ps)
    from_path [] h = tt
    from_path (p ∷ ps) h = and_T (plain_part p.repeat p.event) _ (from_part h.0) (from_path ps h.1)

    to_binding : (x : Binding) → T (plain_binding x) → PlainBinding x
    to_binding (Maps mode path s) h = maps mode path s (to_path path h)
    to_binding (Prefixes mode path s) h = absurd h

    from_binding : {x : Binding} → PlainBinding x → T (plain_binding x)
    from_binding (maps mode path s h) = from_path path h

    to_all : (xs : List Binding) → T (every plain_binding xs) → Each PlainBinding xs
    to_all [] h = tt
    to_all (x ∷ xs) h = let k = T_and (plain_binding x) _ h in (to_binding x k.0, to_all xs k.1)

    from_all : (xs : List Binding) → Each PlainBinding xs → T (every plain_binding xs)
    from_all [] h = tt
    from_all (x ∷ xs) h = and_T (plain_binding x) _ (from_binding h.0) (from_all xs h.1)

    to : (c : Call) → T (plain c) → Plain c
    to (Open t) h = opens t
    to (Map mode path s) h = binds mode path s (to_binding (Maps mode path s) h)
    to (Prefix mode path s) h = absurd h
    to (Press i) h = presses i
    to Pop h = pops
    to (Repeats q over) h = repeats q over
    to Reset h = resets
    to (Change t xs) h = changes t xs (to_all xs h)

    from : {c : Call} → Plain c → T (plain c)
    from (opens t) = tt
    from (binds mode path s h) = from_binding h
    from (presses i) = tt
    from pops = tt
    from (repeats q over) = tt
    from resets = tt
    from (changes t xs h) = from_all xs h
