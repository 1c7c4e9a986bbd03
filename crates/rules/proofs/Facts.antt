-- Facts of the rules that the documents count on, each stated first. Why they are true:
-- one edge: only `add_edge` changes the edge table, and it replaces an edge that has the same start and event (Grown, Reached);
-- kept calls: a binding call is kept only while fewer than 1,024 are (Reached);
-- the stack: a round puts back at most what it took, where a key that decomposes counts for two (Rounds, Reached);
-- popping: each pop takes the first pair; refused calls: `settled` and `pressed` hand back the machine before the call;
-- the refusals: each number stands at the one place where it is met (Grown, Rounds, Refusals).
use Prim.Native.Nat.{ℕ, suc, ◌/◌, ◌%◌, ◌≤◌, ◌<◌}
use native.Mathlib.Omega.{arith}
use mathlib.Core.Path.{◌≡◌, refl, ap}
use mathlib.Core.Bool.{false}
use mathlib.Core.Option.{Option}
use mathlib.Core.List.{List, [], ◌∷◌, ◌++◌, map}
use lib.Dec.{T, eqb, leb, ltb, ltb→lt}
use lib.ListN.{length, get_or, replicate}
use Rattle.rules.specs.Basics.{Result, accept, refuse, every, some_of}
use Rattle.rules.specs.Values.{largest, most_trail, Any, Part, Step, Binding, Maps, Prefixes, Context, Pair}
use Rattle.rules.specs.Tables.{Tables}
use Rattle.rules.specs.Graph.{Edge, Graph}
use Rattle.rules.specs.KeyLoop.{Shared, fresh_shared, with_queue, Navigator, State, at, Input, round}
use Rattle.rules.specs.Calls.{Kind, Machine, with_state, navigate, graph_kind, Call, Open, Map, Prefix, Press, Pop, Repeats, Reset, Change, Popped, Nothing}
use Rattle.rules.specs.Calls.{fresh, open_with, map_call, prefix_call, key_call, repeat_call, reset_call, change_call, bind, settled, pressed, popped, call, history, leaves}
use Rattle.rules.specs.MapFile.{read_map}
use Rattle.rules.specs.Run.{pair_bytes, emptied, run, code_of}
use Rattle.rules.specs.Writing.{write_map, written}
use Rattle.rules.proofs.Examples.{refusal_of}
use Rattle.rules.proofs.Tests.{by_cases, eqb_is, T_and}
use Rattle.rules.proofs.Runs.{is_refusal}
use Rattle.rules.proofs.Results.{Always, accepts, refuses, Whatever, value, always_unless}
use Rattle.rules.proofs.Grown.{any_grows, single_place}
use Rattle.rules.proofs.Weights.{Each, length-weight}
use Rattle.rules.proofs.Rounds.{Bounded, splits}
use Rattle.rules.proofs.Reached.{leaves_single, fresh_single, Is16, KeyIs16, begins_bounded, round_keeps, leaves_few, leaves_short}
use Rattle.rules.proofs.Refusals.{open_always, key_always, repeat_always, reset_always, bind_always, bind_all_always, change_always, file_always, run_always}

-- ---- of one start and one event a graph has at most one edge

-- the graph that calls made from the fresh machine
abbrev pub made_by : Tables → List Call → Graph
made_by t cs = (leaves graph_kind (fresh graph_kind t) cs).bindings

-- the edge at a place of the edge table
abbrev pub edge_at : Graph → ℕ → Edge
edge_at g i = get_or g.edges i (record { from = 0; event = Any; to = 0 })

-- two edges with the same start and the same event stand at the same place: they are one
pub one_edge : (t : Tables) (cs : List Call) → let g = made_by t cs in (i j : ℕ) → i < length g.edges → j < length g.edges
    → (edge_at g i).from ≡ (edge_at g j).from → (edge_at g i).event ≡ (edge_at g j).event → i ≡ j
one_edge t cs i j = single_place _ (made_by t cs).edges (leaves_single (fresh graph_kind t) cs (fresh_single t)) i j

-- ---- a machine keeps at most 1,024 binding calls

-- whatever calls were made from the fresh machine
pub kept_at_most_1024 : (𝓚 : Kind) (t : Tables) (cs : List Call) → length (leaves 𝓚 (fresh 𝓚 t) cs).kept ≤ 1024
unfolding fresh
kept_at_most_1024 𝓚 t cs = leaves_few 𝓚 (fresh 𝓚 t) cs (omega arith)

-- ---- the stack never exceeds 130 keys

-- The loop of `input_key`, begun with keys ks in state m, comes after some rounds to keys ks₁ in state m₁. The budget only says
-- where it stops
pub data Reaches {P : Type 0} (nav : Navigator P) (ks : List ℕ) (m : State P) : List ℕ → State P → Type 0 where
  begins : Reaches nav ks m ks m
  goes_on_lem : {k : ℕ} {ks₁ ks₂ : List ℕ} {m₁ m₂ : State P} → Reaches nav ks m (k ∷ ks₁) m₁ → round nav k ks₁ m₁ ≡ accept (ks₂, m₂) → Reaches nav ks m ks₂ m₂

-- from a trail of at most 64 keys, where it and the key that is pressed are of 16 bits, there are never more than 130 keys to try
pub stack_from_a_trail : {P : Type 0} (nav : Navigator P) (k : ℕ) (m : State P) → k ≤ largest → length m.shared.trail ≤ 64 → Each (λ x. x ≤ largest) m.shared.trail
    → {ks : List ℕ} {m₁ : State P} → Reaches nav (k ∷ []) m ks m₁ → length ks ≤ 130
stack_from_a_trail {P} nav k m h l e {ks} r = omega (arith, length-weight splits ks, (go r).weighs)
  where
    go : {ks₁ : List ℕ} {m₁ : State P} → Reaches nav (k ∷ []) m ks₁ m₁ → Bounded splits m.shared.tables 130 most_trail Is16 ks₁ m₁
    go begins = begins_bounded k m h (l, e)
    go (goes_on_lem {k = k₁} {ks₁ = ks₁} {m₁ = m₁} r e₁) = value (rw e₁ at (round_keeps nav m.shared.tables k₁ ks₁ m₁ (go r)))

-- calls whose keys, where they have one, are of 16 bits (`KeyIs16`) leave a trail of at most 64 keys, of 16 bits each
pub trail_at_most_64 : (𝓚 : Kind) (t : Tables) (cs : List Call) → Each KeyIs16 cs → let tr = (leaves 𝓚 (fresh 𝓚 t) cs).state.shared.trail in (length tr ≤ 64) × Each (λ x. x ≤ largest) tr
unfolding fresh fresh_shared
trail_at_most_64 𝓚 t cs h = leaves_short 𝓚 (fresh 𝓚 t) cs h (omega arith, tt)

-- so, whatever such calls were made, the next key of 16 bits never has more than 130 keys to try
pub stack_at_most_130 : (𝓚 : Kind) (t : Tables) (cs : List Call) (k : ℕ) (ks : List ℕ) (m : State 𝓚.Place) → Each KeyIs16 cs → k ≤ largest
    → let s = leaves 𝓚 (fresh 𝓚 t) cs in Reaches (navigate 𝓚 s) (k ∷ []) s.state ks m → length ks ≤ 130
stack_at_most_130 𝓚 t cs k ks m h l r =
    let s = leaves 𝓚 (fresh 𝓚 t) cs in
    let short = trail_at_most_64 𝓚 t cs h in
    stack_from_a_trail (navigate 𝓚 s) k s.state l short.0 short.1 r

-- ---- popping until "nothing"

-- one pop more than pairs wait
abbrev pub pops : Shared → List Call
pops c = replicate (suc (length c.queue)) Pop

-- a run's `emptied`: the pops give the pairs in order, then "nothing", and leave the machine that it says
pub emptied_pops : (s : Machine graph_kind) (m : State ℕ) → let s₁ = with_state graph_kind s m in
    (map (λ x. x.0) (history graph_kind s₁ (pops m.shared)) ≡ map Popped m.shared.queue ++ (Nothing ∷ []))
    × (leaves graph_kind s₁ (pops m.shared) ≡ emptied s m)
unfolding history leaves call popped
emptied_pops s m = go m.shared.queue
  where
    with : List Pair → Machine graph_kind
    with ps = with_state graph_kind s (at m.place (with_queue ps m.shared))

    go : (ps : List Pair) → (map (λ x. x.0) (history graph_kind (with ps) (replicate (suc (length ps)) Pop)) ≡ map Popped ps ++ (Nothing ∷ []))
        × (leaves graph_kind (with ps) (replicate (suc (length ps)) Pop) ≡ with [])
    go [] = (refl, refl)
    go (p ∷ ps) = let k = go ps in (ap (λ xs. Popped p ∷ xs) k.0, k.1)

-- ---- a refused call leaves the machine as it was

-- any call, of any machine
pub refused_leaves_all : (𝓚 : Kind) (s : Machine 𝓚) (c : Call) → T (is_refusal (call 𝓚 s c).1) → (call 𝓚 s c).0 ≡ s
unfolding call settled pressed popped
refused_leaves_all 𝓚 s c = go c
  where
    after_result : (r : Result (Machine 𝓚)) → T (is_refusal (settled 𝓚 s r).1) → (settled 𝓚 s r).0 ≡ s
    after_result (accept s₁) h = absurd h
    after_result (refuse n) h = refl

    after_key : (rounds : ℕ) (r : Result (State 𝓚.Place)) → T (is_refusal (pressed 𝓚 s rounds r).1) → (pressed 𝓚 s rounds r).0 ≡ s
    after_key rounds (accept m) h = absurd h
    after_key rounds (refuse n) h = refl

    after_pop : (ps : List Pair) → T (is_refusal (popped 𝓚 s ps).1) → (popped 𝓚 s ps).0 ≡ s
    after_pop [] h = refl
    after_pop (p ∷ ps) h = absurd h

    go : (c : Call) → T (is_refusal (call 𝓚 s c).1) → (call 𝓚 s c).0 ≡ s
    go (Open t) = after_result (open_with 𝓚 t)
    go (Map mode path st) = after_result (map_call 𝓚 mode path st s)
    go (Prefix mode path os) = after_result (prefix_call 𝓚 mode path os s)
    go (Press i) = let r = key_call 𝓚 i s in after_key r.rounds r.result
    go Pop = after_pop s.state.shared.queue
    go (Repeats q over) = after_result (repeat_call 𝓚 q over s)
    go Reset = after_result (reset_call 𝓚 s)
    go (Change t xs) = after_result (change_call 𝓚 t xs s)

-- ---- the refusals of each operation

-- refused, if at all, with one of these numbers
abbrev pub RefusedAmong : {A : Type 0} → List ℕ → Result A → Type 0
RefusedAmong ns (accept x) = Unit {0}
RefusedAmong ns (refuse n) = T (some_of (eqb n) ns)

among : {A : Type 0} (ns : List ℕ) {X : A → Type 0} {r : Result A} → Always (λ n. some_of (eqb n) ns) X r → RefusedAmong ns r
among ns (accepts h) = tt
among ns (refuses n h) = h

-- open, of any machine: 1
pub open_refuses : (𝓚 : Kind) (t : Tables) → RefusedAmong (1 ∷ []) (open_with 𝓚 t)
unfolding some_of
open_refuses 𝓚 t = among (1 ∷ []) (open_always 𝓚 tt t)

-- map: 1, 2, 3, 4, 11
pub map_refuses : (mode : ℕ) (path : List Part) (st : Step) (s : Machine graph_kind) → RefusedAmong (1 ∷ 2 ∷ 3 ∷ 4 ∷ 11 ∷ []) (map_call graph_kind mode path st s)
unfolding some_of bind
map_refuses mode path st s = among (1 ∷ 2 ∷ 3 ∷ 4 ∷ 11 ∷ []) (bind_always tt tt tt tt tt (λ g. Unit {0}) any_grows (Maps mode path st) s tt)

-- prefix: the same
pub prefix_refuses : (mode : ℕ) (path : List Part) (os : Option Step) (s : Machine graph_kind) → RefusedAmong (1 ∷ 2 ∷ 3 ∷ 4 ∷ 11 ∷ []) (prefix_call graph_kind mode path os s)
unfolding some_of bind
prefix_refuses mode path os s = among (1 ∷ 2 ∷ 3 ∷ 4 ∷ 11 ∷ []) (bind_always tt tt tt tt tt (λ g. Unit {0}) any_grows (Prefixes mode path os) s tt)

-- a key, of any machine: 8, 12, 6, 5, 7
pub key_refuses : (𝓚 : Kind) (i : Input) (s : Machine 𝓚) → RefusedAmong (8 ∷ 12 ∷ 6 ∷ 5 ∷ 7 ∷ []) (key_call 𝓚 i s).result
unfolding some_of
key_refuses 𝓚 i s = among (8 ∷ 12 ∷ 6 ∷ 5 ∷ 7 ∷ []) (key_always 𝓚 tt tt tt tt tt i s)

-- repeat, of any machine: 1, 5
pub repeat_refuses : (𝓚 : Kind) (q : ℕ) (over : Option Context) (s : Machine 𝓚) → RefusedAmong (1 ∷ 5 ∷ []) (repeat_call 𝓚 q over s)
unfolding some_of
repeat_refuses 𝓚 q over s = among (1 ∷ 5 ∷ []) (repeat_always 𝓚 tt tt q over s)

-- reset, of any machine: 6, 5
pub reset_refuses : (𝓚 : Kind) (s : Machine 𝓚) → RefusedAmong (6 ∷ 5 ∷ []) (reset_call 𝓚 s)
unfolding some_of
reset_refuses 𝓚 s = among (6 ∷ 5 ∷ []) (reset_always 𝓚 tt tt s)

-- a change: open's, and what a map or prefix call refuses
pub change_refuses : (t : Tables) (xs : List Binding) (s : Machine graph_kind) → RefusedAmong (1 ∷ 2 ∷ 3 ∷ 4 ∷ 11 ∷ []) (change_call graph_kind t xs s)
unfolding some_of
change_refuses t xs s =
    among (1 ∷ 2 ∷ 3 ∷ 4 ∷ 11 ∷ [])
    (change_always graph_kind tt Whatever t xs s (λ v. bind_all_always graph_kind Whatever (bind_always tt tt tt tt tt (λ g. Unit {0}) any_grows) xs (fresh graph_kind t) tt))

-- a pop, of any machine: none
pub pop_never_refuses : (𝓚 : Kind) (s : Machine 𝓚) → is_refusal (call 𝓚 s Pop).1 ≡ false
unfolding call popped
pop_never_refuses 𝓚 s = go s.state.shared.queue
  where
    go : (ps : List Pair) → is_refusal (popped 𝓚 s ps).1 ≡ false
    go [] = refl
    go (p ∷ ps) = refl

-- a map file: 9, 1, and what a map or prefix call refuses
pub file_refuses : (bs : List ℕ) → RefusedAmong (9 ∷ 1 ∷ 2 ∷ 3 ∷ 4 ∷ 11 ∷ []) (read_map bs)
unfolding some_of
file_refuses bs = among (9 ∷ 1 ∷ 2 ∷ 3 ∷ 4 ∷ 11 ∷ []) (file_always tt tt tt tt tt tt bs)

-- writing a map file: 10
pub write_refuses : (t : Tables) (xs : List Binding) (lent : ℕ) → RefusedAmong (10 ∷ []) (written t xs lent)
unfolding written some_of
write_refuses t xs lent = among (10 ∷ []) {X = Whatever} (always_unless (leb (length (write_map t xs)) lent) 10 tt (accepts tt))

-- a run's numbers: a map file's, the keys', and 10
abbrev pub run_numbers : List ℕ
run_numbers = 9 ∷ 1 ∷ 2 ∷ 3 ∷ 4 ∷ 11 ∷ 8 ∷ 12 ∷ 6 ∷ 5 ∷ 7 ∷ 10 ∷ []

-- a run: these
pub run_refuses : (map keys : List ℕ) (budget lent : ℕ) → RefusedAmong run_numbers (run map keys budget lent)
unfolding some_of
run_refuses map keys budget lent = among run_numbers (run_always tt tt tt tt tt tt tt tt tt tt tt tt map keys budget lent)

-- the bytes written, 0 if refused
abbrev pub length_of : Result (List Pair) → ℕ
length_of (accept ps) = length (pair_bytes ps)
length_of (refuse n) = 0

-- all are under 32, so the number for C splits into length and refusal
pub code_splits : (map keys : List ℕ) (budget lent : ℕ) → let r = run map keys budget lent in (code_of pair_bytes r / 32 ≡ length_of r) × (code_of pair_bytes r % 32 ≡ refusal_of r)
unfolding code_of some_of every
code_splits map keys budget lent = go (run map keys budget lent) (run_refuses map keys budget lent)
  where
    small : (ns : List ℕ) → T (every (λ x. ltb x 32) ns) → (n : ℕ) → T (some_of (eqb n) ns) → n < 32
    small [] t n h = absurd h
    small (x ∷ ns) t n h =
        let k = T_and (ltb x 32) (every (λ y. ltb y 32) ns) t in
        by_cases (eqb n x) (λ e. rw (eqb_is n x e) (ltb→lt x 32 k.0)) (λ e. small ns k.1 n (rw e at h))

    go : (r : Result (List Pair)) → RefusedAmong run_numbers r → (code_of pair_bytes r / 32 ≡ length_of r) × (code_of pair_bytes r % 32 ≡ refusal_of r)
    go (accept ps) h = (omega arith, omega arith)
    go (refuse n) h = let k : n < 32 = small run_numbers tt n h in (omega arith, omega arith)
