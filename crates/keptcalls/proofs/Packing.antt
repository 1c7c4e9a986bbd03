-- A call that is in range comes back from its words. Each number is below the next one's place in the word, so that it is
-- read alone again; what is in range is smaller than its place, so that nothing of it was cut.
use Prim.Native.Nat.{ℕ, zero, suc, ◌+◌, ◌*◌, ◌/◌, ◌%◌, ◌≤◌, ◌<◌}
use mathlib.Core.Path.{◌≡◌, refl, sym, ap, ◌∙◌}
use mathlib.Core.Bool.{true}
use mathlib.Core.List.{List, [], ◌∷◌, ◌++◌, map, map-append}
use mathlib.Core.Option.{Option}
use native.Mathlib.Omega.{arith}
use lib.Dec.{eqb}
use lib.ListN.{length, take, set, get_or, length-map, length-set}
use lib.Seq.{take_all}
use Rattle.rules.specs.Basics.{every, present}
use Rattle.rules.specs.Values.{is_mode, is_mark, Part, Step, repeat_valid, part_valid, path_valid, step_valid, map_valid, prefix_valid, binding_valid}
use Rattle.rules.specs.MapFile.{optional_mark}
use Rattle.rules.proofs.Tests.{and_l, and_r}
use Rattle.keyvalues.specs.declared.path.EdgePath.{EdgePath}
use Rattle.keyvalues.specs.declared.path.EdgePathPart.{EdgePathPart}
use Rattle.keyvalues.specs.declared.step.Step as st
use Rattle.keyvalues.specs.View.{part_of, whole_path, whole_step, maybe_of, four_of, opt_of, call_of}
use Rattle.std.proofs.lemmas.Bool.Decides.{nat_tests}
use Rattle.keyvalues.proofs.Ranges.{fit_take, fit_length}
use Rattle.std.specs.Prelude
use Rattle.std.specs.Prelude.{Some, None}
use Rattle.std.specs.Option.{unwrap_or}
use Rattle.std.proofs.lemmas.List.{take-map, take_more_set, map_more}
use Rattle.keptcalls.specs.declared.words.Kind.{Kind}
use Rattle.keptcalls.specs.declared.words.Kind.TheVariants.{Mapping, Prefix, PrefixWithStep}
use Rattle.keptcalls.specs.View.{event_by, repeat_by, part_at, cut_repeat, cut_part, parts_in, step_at, call_by, kind_number, call_as}

-- ---- parts

pub part_word : (e r : ℕ) (p : Part) → e < 262144 → r < 1024 → event_by (e / 65536) (e % 65536) ≡ p.event → repeat_by (r % 4) (r / 4) ≡ cut_repeat p.repeat
    → part_at (e + 262144 * r) ≡ cut_part p
unfolding part_at cut_part
part_word e r p he hr xe xr = grind arith

-- one part more has its code
pub codes_more : (cs : List ℕ) (ps : List EdgePathPart) (i c : ℕ) (d : EdgePathPart) → length cs ≡ 32 → i < 32 → i < length ps
    → part_at c ≡ cut_part (part_of (get_or ps i d)) → take i (parts_in cs) ≡ map cut_part (map part_of (take i ps))
    → (length (set cs i c) ≡ 32) × (take (i + 1) (parts_in (set cs i c)) ≡ map cut_part (map part_of (take (i + 1) ps)))
codes_more cs ps i c d l h k e x =
    let j : i < length cs = omega arith in
    let y : map part_at (take i cs) ≡ map cut_part (map part_of (take i ps)) = sym (take-map part_at i cs) ∙ x in (
      length-set cs i c ∙ l,
      take-map part_at (i + 1) (set cs i c)
          ∙ ap (map part_at) (take_more_set cs i c j)
          ∙ map-append part_at (take i cs) (c ∷ [])
          ∙ ap (λ xs. xs ++ part_at c ∷ []) y
          ∙ ap (λ p. map cut_part (map part_of (take i ps)) ++ p ∷ []) e
          ∙ sym (map-append cut_part (map part_of (take i ps)) (part_of (get_or ps i d) ∷ []))
          ∙ ap (map cut_part) (sym (map_more part_of ps i d k)),
    )

pub codes_all : (cs : List ℕ) (ps : List EdgePathPart) (i : ℕ) → i ≤ length ps → length ps ≤ i
    → take i (parts_in cs) ≡ map cut_part (map part_of (take i ps)) → take (length ps) (parts_in cs) ≡ map cut_part (map part_of ps)
codes_all cs ps i h k x =
    let e : i ≡ length ps = omega arith in
    ap (λ n. take n (parts_in cs)) (sym e) ∙ x ∙ ap (λ qs. map cut_part (map part_of qs)) (take_all i ps k)

-- what is in range is not cut
cut_part_lem : (p : Part) → part_valid p ≡ true → cut_part p ≡ p
unfolding cut_part part_valid cut_repeat repeat_valid
cut_part_lem p h = grind (arith, nat_tests)

cut_parts : (ps : List Part) → every part_valid ps ≡ true → map cut_part ps ≡ ps
unfolding every
cut_parts [] h = refl
cut_parts (p ∷ ps) h = rw (cut_part_lem p (and_l (part_valid p) (every part_valid ps) h), cut_parts ps (and_r (part_valid p) (every part_valid ps) h))

path_back : (p : EdgePath) (ps : List ℕ) → length p.parts ≡ 32
    → take (length (take p.count p.parts)) (parts_in ps) ≡ map cut_part (map part_of (take p.count p.parts)) → path_valid (whole_path p) ≡ true
    → take (p.count % 64) (parts_in ps) ≡ whole_path p
unfolding path_valid
path_back p ps l e h =
    grind (arith, nat_tests, fit_length, fit_take, cut_parts, take-map, length-map)

-- ---- the step

-- a mode in range fits the five bits that it has
mode_back : (x : ℕ) (m : Option ℕ) → x ≤ 65536 → opt_of x ≡ m → present is_mode m ≡ true → opt_of (x % 32) ≡ m
unfolding present opt_of
mode_back zero m k e h = e
mode_back (suc x) m k e h = let n = rw (← e) at h in grind (arith, nat_tests)

-- no mark is 0
mark_back : (m : Prelude.Option ℕ) → present is_mark (maybe_of m) ≡ true → optional_mark (unwrap_or m 0) ≡ maybe_of m
unfolding present optional_mark
mark_back None h = refl
mark_back (Some zero) h = grind (arith, nat_tests)
mark_back (Some (suc n)) h = refl

pub step_word : (flag count next fall mark w : ℕ) → flag < 2 → count < 8 → next < 32 → fall < 32 → mark < 65536
    → step_at (flag + 2 * (count + 8 * (next + 32 * (fall + 32 * mark)))) w
    ≡ record { flag = eqb flag 1; actions = take count (four_of w); next = opt_of next; fallthrough = opt_of fall; mark = optional_mark mark }
unfolding step_at
step_word flag count next fall mark w hf hc hn hl hm = grind arith

-- the step of the words: what is in range comes back
pub step_back : (s : st.Step) (flag next fall mark w : ℕ) → flag < 2 → next ≤ 65536 → fall ≤ 65536 → mark < 65536
    → eqb flag 1 ≡ s.unmapped → opt_of next ≡ maybe_of s.next → opt_of fall ≡ maybe_of s.fallthrough → mark ≡ unwrap_or s.mark 0
    → four_of w ≡ s.actions.items → step_valid (whole_step s) ≡ true
    → step_at (flag + 2 * (s.actions.count % 8 + 8 * (next % 32 + 32 * (fall % 32 + 32 * mark)))) w ≡ whole_step s
unfolding step_valid
step_back s flag next fall mark w hf hn hl hm xf xn xl xm xw h =
    let l : 4 ≡ length s.actions.items = ap length xw in grind (arith, nat_tests, fit_length, fit_take, mode_back, mark_back, step_word)

-- ---- the call

head_word : (ps : List ℕ) (kind mode count step w : ℕ) → kind < 4 → mode < 16 → count < 64
    → call_by ps (kind + 4 * (mode + 16 * (count + 64 * step))) w ≡ call_of kind mode (take count (parts_in ps)) (step_at step w)
unfolding call_by
head_word ps kind mode count step w hk hm hc = grind arith

-- a call in range, of which the mode and the path come back, and with these the step, where its kind has one
same_call : (k : Kind) (mode : ℕ) (path path₁ : List Part) (s : Step) → (path_valid path ≡ true → path₁ ≡ path)
    → (binding_valid (call_as k mode path) ≡ true → call_of (kind_number k) mode path s ≡ call_as k mode path)
    → binding_valid (call_as k mode path) ≡ true → call_of (kind_number k) (mode % 16) path₁ s ≡ call_as k mode path
unfolding call_of binding_valid map_valid prefix_valid
same_call (Mapping step) mode path path₁ s xp xs h = grind (arith, nat_tests)
same_call Prefix mode path path₁ s xp xs h = grind (arith, nat_tests)
same_call (PrefixWithStep step) mode path path₁ s xp xs h = grind (arith, nat_tests)

pub call_back : (k : Kind) (mode : ℕ) (path : EdgePath) (step : ℕ) (ps : List ℕ) (w : ℕ) → length path.parts ≡ 32 → kind_number k < 4
    → (binding_valid (call_as k mode (whole_path path)) ≡ true → call_of (kind_number k) mode (whole_path path) (step_at step w) ≡ call_as k mode (whole_path path))
    → take (length (take path.count path.parts)) (parts_in ps) ≡ map cut_part (map part_of (take path.count path.parts))
    → binding_valid (call_as k mode (whole_path path)) ≡ true
    → call_by ps (kind_number k + 4 * (mode % 16 + 16 * (path.count % 64 + 64 * step))) w ≡ call_as k mode (whole_path path)
call_back k mode path step ps w l hk xs e h =
    grind (arith, nat_tests, head_word, same_call, path_back)
