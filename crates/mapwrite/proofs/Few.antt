-- A map has so few numbers that its length in bytes, times 32, is a number of 64 bits: no list is longer than its words have room
-- for, no entry has more numbers than its words have parts, and no number takes more than three bytes.
use Prim.Native.Nat.{ℕ, zero, suc, ◌+◌, ◌*◌, ◌/◌, ◌%◌, ◌≤◌, ◌<◌}
use native.Mathlib.Omega.{arith}
use native.Mathlib.Nat.{mul-suc}
use mathlib.Core.Logic.{◌⊎◌, inl, inr}
use mathlib.Core.Path.{◌≡◌, refl, ap}
use mathlib.Core.List.{List, [], ◌∷◌, ◌++◌, map, flat_map}
use lib.ListN.{length, take, length-append, length-take, length-map}
use Rattle.rules.specs.Values.{Event, Key, Class, Any, Fallthrough, Repeat, Once, Min, Max, Part, Step}
use Rattle.rules.specs.Numbers.{bytes_of}
use Rattle.rules.specs.Tables.{Tables}
use Rattle.rules.specs.MapFile.{optional_mark}
use Rattle.rules.specs.Writing.{alone, listed, class_numbers, mode_number, mark_number, mode_numbers, rule_numbers, tables_numbers, repeat_numbers, event_numbers, part_numbers, step_numbers, binding_numbers, map_numbers, in_bytes, write_map}
use Rattle.rules.proofs.Numbers.{side, written_one}
use Rattle.keyvalues.specs.View.{four_of, opt_of, call_of, class_at}
use Rattle.keyvalues.specs.declared.class.ClassWord.{ClassWord}
use Rattle.keyvalues.specs.declared.tables.RuleWord.{RuleWord}
use Rattle.keyvalues.specs.declared.tables.TableWords.{TableWords}
use Rattle.keyvalues.specs.declared.tables.ModeWords.{ModeWords}
use Rattle.keytables.specs.View.{entry_in, rule_of, tables_of}
use Rattle.keptcalls.specs.View.{part_at, parts_in, step_at, call_by, call_in, kept_in}
use Rattle.keptcalls.specs.declared.words.CallWords.{CallWords}
use Rattle.mapparts.proofs.Writing.{bytes_two, bytes_three}

-- ---- lists

module _ {A : Type 0} (w : A → List ℕ) (k : ℕ) (each : (x : A) → length (w x) ≤ k) where
  flat_few : (xs : List A) → length (flat_map w xs) ≤ k * length xs
  unfolding flat_map
  flat_few [] = omega arith
  flat_few (x ∷ xs) = omega (arith, flat_few xs, each x, length-append (w x) (flat_map w xs), mul-suc k (length xs))

  listed_few : (xs : List A) → length (listed w xs) ≤ 1 + k * length xs
  unfolding listed
  listed_few xs = omega (arith, flat_few xs)

module _ {A B : Type 0} (w : B → List ℕ) (f : A → B) where
  flat_mapped : (xs : List A) → flat_map w (map f xs) ≡ flat_map (λ x. w (f x)) xs
  unfolding flat_map
  flat_mapped [] = refl
  flat_mapped (x ∷ xs) = ap (λ l. w (f x) ++ l) (flat_mapped xs)

  -- the first entries of a table
  table_few : (k : ℕ) → ((x : A) → length (w (f x)) ≤ k) → (n : ℕ) (l : List A) → length (listed w (map f (take n l))) ≤ 1 + k * length (take n l)
  unfolding listed
  table_few k each n l = omega (arith, flat_few (λ x. w (f x)) k each (take n l), ap length (flat_mapped (take n l)))

-- ---- entries

actions_few : (n w : ℕ) → length (listed alone (take n (four_of w))) ≤ 5
actions_few n w = omega (arith, listed_few alone 1 (λ x. omega arith) (take n (four_of w)), length-take n (four_of w))

pub mode_few : (b : ModeWords) → length (mode_numbers (entry_in b)) ≤ 11
unfolding mode_numbers entry_in
mode_few b =
    let e = listed alone (take (b.head % 8) (four_of (b.enter))) in
    let u = listed alone (take (b.head / 8 % 8) (four_of (b.unmapped))) in
    let n = alone (mode_number (opt_of (b.head / 64))) in
    omega (arith, length-append e (u ++ n), length-append u n, actions_few (b.head % 8) (b.enter), actions_few (b.head / 8 % 8) (b.unmapped))

pub class_few : (w : ClassWord) → length (class_numbers (class_at w)) ≤ 3
unfolding class_numbers
class_few w = omega arith

pub rule_few : (w : RuleWord) → length (rule_numbers (rule_of w)) ≤ 5
unfolding rule_numbers
rule_few w = omega arith

repeat_few : (r : Repeat) → length (repeat_numbers r) ≤ 2
unfolding repeat_numbers
repeat_few Once = omega arith
repeat_few (Min n) = omega arith
repeat_few (Max n) = omega arith

event_few : (e : Event) → length (event_numbers e) ≤ 2
unfolding event_numbers
event_few (Key k) = omega arith
event_few (Class c) = omega arith
event_few Any = omega arith
event_few Fallthrough = omega arith

pub part_few : (p : Part) → length (part_numbers p) ≤ 4
unfolding part_numbers
part_few p = omega (arith, repeat_few p.repeat, event_few p.event, length-append (repeat_numbers p.repeat) (event_numbers p.event))

step_few : (h w : ℕ) → length (step_numbers (step_at h w)) ≤ 9
unfolding step_numbers step_at
step_few h w =
    let n = mode_number (opt_of (h / 2 / 8 % 32)) in
    let f = mode_number (opt_of (h / 2 / 8 / 32 % 32)) in
    let m = mark_number (optional_mark (h / 2 / 8 / 32 / 32 % 65536)) in
    omega (arith, actions_few (h / 2 % 8) w, length-append (listed alone (take (h / 2 % 8) (four_of w))) (n ∷ f ∷ m ∷ []))

call_few : (kind mode : ℕ) (path : List Part) (st : Step) (most : ℕ) → length path ≤ most → length (step_numbers st) ≤ 9 → length (binding_numbers (call_of kind mode path st)) ≤ 12 + 4 * most
unfolding call_of binding_numbers
call_few zero mode path st most h k = omega (arith, listed_few part_numbers 4 part_few path, length-append (listed part_numbers path) (step_numbers st))
call_few (suc zero) mode path st most h k = omega (arith, listed_few part_numbers 4 part_few path)
call_few (suc (suc n)) mode path st most h k = omega (arith, listed_few part_numbers 4 part_few path, length-append (listed part_numbers path) (step_numbers st))

-- a call, by how many parts its path has at most
kept_by : (w : CallWords) (most : ℕ) → length (take (w.head / 4 / 16 % 64) (parts_in w.parts)) ≤ most → length (binding_numbers (call_in w)) ≤ 12 + 4 * most
unfolding call_by
kept_by w most l =
    let h = w.head in
    call_few (h % 4) (h / 4 % 16) (take (h / 4 / 16 % 64) (parts_in w.parts)) (step_at (h / 4 / 16 / 64) w.actions) most l (step_few (h / 4 / 16 / 64) w.actions)

kept_few : (w : CallWords) → length (binding_numbers (call_in w)) ≤ 264
kept_few w =
    let l : length (take (w.head / 4 / 16 % 64) (parts_in w.parts)) ≤ 63 = omega (arith, length-take (w.head / 4 / 16 % 64) (parts_in w.parts)) in
    kept_by w 63 l

-- a call of the code, whose words have room for 32 parts
pub call_short : (w : CallWords) → length w.parts ≡ 32 → length (binding_numbers (call_in w)) ≤ 140
call_short w h =
    let l : length (take (w.head / 4 / 16 % 64) (parts_in w.parts)) ≤ 32 = omega (arith, length-take (w.head / 4 / 16 % 64) (parts_in w.parts), length-map w.parts part_at, h) in
    kept_by w 32 l

abbrev pub Paths : List CallWords → Type 0
Paths [] = Unit {0}
Paths (w ∷ ws) = (length w.parts ≤ 32) × Paths ws

paths_take : (n : ℕ) (ws : List CallWords) → Paths ws → Paths (take n ws)
paths_take zero ws h = tt
paths_take (suc n) [] h = tt
paths_take (suc n) (w ∷ ws) h = (h.0, paths_take n ws h.1)

calls_few : (ws : List CallWords) → Paths ws → length (listed binding_numbers (map call_in ws)) ≤ 1 + 140 * length ws
unfolding listed flat_map
calls_few ws h = go ws h
  where
    go : (ws : List CallWords) → Paths ws → suc (length (flat_map binding_numbers (map call_in ws))) ≤ 1 + 140 * length ws
    go [] h = omega arith
    go (w ∷ ws) h =
        let l : length (take (w.head / 4 / 16 % 64) (parts_in w.parts)) ≤ 32 = omega (arith, length-take (w.head / 4 / 16 % 64) (parts_in w.parts), length-map w.parts part_at, h.0) in
        omega (arith, go ws h.1, kept_by w 32 l, length-append (binding_numbers (call_in w)) (flat_map binding_numbers (map call_in ws)), mul-suc 140 (length ws))

-- ---- the map

tables_few : (t : TableWords) (c m r : ℕ) → length (take t.class_count t.classes) ≤ c → length (take t.mode_count t.modes) ≤ m → length (take t.rule_count t.rules) ≤ r
    → length (tables_numbers (tables_of t)) ≤ 3 + 3 * c + 11 * m + 5 * r
unfolding tables_numbers
tables_few t c m r hc hm hr =
    let cs = listed class_numbers (map class_at (take t.class_count t.classes)) in
    let ms = listed mode_numbers (map entry_in (take t.mode_count t.modes)) in
    let rs = listed rule_numbers (map rule_of (take t.rule_count t.rules)) in
    omega (
      arith,
      length-append cs (ms ++ rs),
      length-append ms rs,
      table_few class_numbers class_at 3 class_few t.class_count t.classes,
      table_few mode_numbers entry_in 11 mode_few t.mode_count t.modes,
      table_few rule_numbers rule_of 5 rule_few t.rule_count t.rules,
    )

number_few : (n : ℕ) → length (bytes_of n) ≤ 3
number_few n = go (side n 128) (side n 16384)
  where
    go : (n < 128) ⊎ (128 ≤ n) → (n < 16384) ⊎ (16384 ≤ n) → length (bytes_of n) ≤ 3
    go (inl h) k = omega (arith, ap length (written_one n h))
    go (inr h) (inl k) = omega (arith, ap length (bytes_two n h k))
    go (inr h) (inr k) = omega (arith, ap length (bytes_three n k))

-- tables whose arrays are no longer than their places
pub tables_short : (t : TableWords) → length t.classes ≤ 16 → length t.modes ≤ 16 → length t.rules ≤ 64 → length (tables_numbers (tables_of t)) ≤ 547
tables_short t hc hm hr =
    tables_few t 16 16 64 (omega (arith, length-take t.class_count t.classes)) (omega (arith, length-take t.mode_count t.modes)) (omega (arith, length-take t.rule_count t.rules))

-- the tables and the calls' numbers
module _ (t : Tables) (n : ℕ) (ks : List CallWords) (few : length (tables_numbers t) ≤ 547) (hk : length ks ≤ 1024) where
  by_calls : (most : ℕ) → length (listed binding_numbers (map call_in (take n ks))) ≤ most → length (write_map t (kept_in n ks)) ≤ 3 * (547 + most)
  unfolding write_map in_bytes map_numbers kept_in
  by_calls most each =
      let ts = tables_numbers t in
      let cs = listed binding_numbers (map call_in (take n ks)) in
      omega (arith, flat_few bytes_of 3 number_few (ts ++ cs), length-append ts cs)

  -- whatever words the calls have
  pub map_bounded : length (write_map t (kept_in n ks)) ≤ 812655
  map_bounded = omega (arith, by_calls 270337 (omega (arith, table_few binding_numbers call_in 264 kept_few n ks, length-take n ks)))

  -- those of which each was seen to have few numbers, as it was put
  pub map_short : length (listed binding_numbers (map call_in (take n ks))) ≤ 1 + 140 * length (take n ks) → length (write_map t (kept_in n ks)) ≤ 431724
  map_short each = omega (arith, by_calls 143361 (omega (arith, each, length-take n ks)))

  calls_short : Paths ks → length (write_map t (kept_in n ks)) ≤ 431724
  calls_short h = by_calls 143361 (omega (arith, calls_few (take n ks) (paths_take n ks h), length-take n ks))

-- tables and a call whose arrays are no longer than their places, as the types have it: a value of the code is its own cut
abbrev pub cut_tables : TableWords → TableWords
cut_tables t = record { class_count = t.class_count; classes = take 16 t.classes; mode_count = t.mode_count; modes = take 16 t.modes; rule_count = t.rule_count; rules = take 64 t.rules }

abbrev pub cut_call : CallWords → CallWords
cut_call w = record { parts = take 32 w.parts; head = w.head; actions = w.actions }

paths_cut : (ks : List CallWords) → Paths (map cut_call ks)
paths_cut [] = tt
paths_cut (w ∷ ws) = (omega (arith, length-take 32 w.parts), paths_cut ws)

-- no map of any words is longer
pub map_few : (t : TableWords) (n : ℕ) (ks : List CallWords) → length (write_map (tables_of (cut_tables t)) (kept_in n (take 1024 (map cut_call ks)))) ≤ 431724
map_few t n ks =
    calls_short (tables_of (cut_tables t)) n (take 1024 (map cut_call ks))
    (tables_short (cut_tables t) (omega (arith, length-take 16 t.classes)) (omega (arith, length-take 16 t.modes)) (omega (arith, length-take 64 t.rules)))
    (omega (arith, length-take 1024 (map cut_call ks)))
    (paths_take 1024 (map cut_call ks) (paths_cut ks))
