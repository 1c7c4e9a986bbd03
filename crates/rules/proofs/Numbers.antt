-- Numbers as bytes. A number below 128 × 128 × 128 has at most three groups in the shortest form, since the last of four is
-- not 0 and so stands for 128 × 128 × 128 at least. So `number` goes by its first three bytes; reading what was written
-- gives the number back, and whatever is read is what writing gives. A bound may be tested behind a wider one.
use Rattle.std.specs.Prelude.{if◌then◌else◌}
use Prim.Native.Nat.{ℕ, zero, suc, ◌+◌, ◌-◌, ◌*◌, ◌/◌, ◌%◌, ◌≤◌, ◌<◌}
use native.Mathlib.Omega.{arith}
use native.Mathlib.Nat.{add-zero}
use mathlib.Core.Path.{◌≡◌, refl, sym, ap, ◌∙◌}
use mathlib.Core.Bool.{Bool, true, false, not, ◌&&◌}
use mathlib.Core.Logic.{◌⊎◌, inl, inr}
use mathlib.Core.List.{List, [], ◌∷◌, ◌++◌}
use lib.Dec.{leb, ltb, eqb, eqb-suc-zero}
use borrow.Author.Tests.{ltb-true, ltb-false, leb-true, eqb-false, lt-ltb, le-ltb, le-leb, lt-leb, ne_eqb}
use Rattle.rules.specs.Basics.{Result, accept, refuse, ◌>>=◌, unless}
use Rattle.rules.specs.Numbers.{groups, value_of, last_group, shortest, number_up_to, bytes_of}

-- a refusal accepts nothing
pub never : {A X : Type 0} (n : ℕ) (y : A) → refuse n ≡ accept y → X
never n y e = absurd (let z : ◌≡◌ {A = ℕ} 0 1 = cc in omega arith)

-- ---- groups

abbrev Grouped : Type 0
Grouped = Result (List ℕ × List ℕ)

-- a group before those that were read
abbrev before : ℕ → Grouped → Grouped
before g x = x >>= λ r. accept (g ∷ r.0, r.1)

-- the number, held to the shortest form and to the limit
abbrev judged : ℕ → Grouped → Result (ℕ × List ℕ)
judged most x = x >>= λ r. unless (shortest r.0 && leb (value_of r.0) most) 9 (accept (value_of r.0, r.1))

groups_last : (b : ℕ) (bs : List ℕ) → b < 128 → groups (b ∷ bs) ≡ accept (b ∷ [], bs)
unfolding groups
groups_last b bs h = rw (lt-ltb b 128 h)

groups_more : (b : ℕ) (bs : List ℕ) → 128 ≤ b → groups (b ∷ bs) ≡ before (b - 128) (groups bs)
unfolding groups
groups_more b bs h = rw (le-ltb b 128 h)

-- all that is refused is refused with 9, and what is read has a group at least
abbrev Read : Grouped → Type 0
Read (accept r) = (g : ℕ) × (gs : List ℕ) × (r.0 ≡ g ∷ gs)
Read (refuse n) = n ≡ 9

groups_read : (bs : List ℕ) → Read (groups bs)
unfolding groups
groups_read [] = refl
groups_read (b ∷ bs) = go (ltb b 128) (groups bs) (groups_read bs)
  where
    go : (t : Bool) (x : Grouped) → Read x → Read (if t then accept (b ∷ [], bs) else before (b - 128) x)
    go true x h = (b, [], refl)
    go false (accept r) h = (b - 128, r.0, refl)
    go false (refuse n) h = h

-- a number is at most the limit
pub read_most : (most : ℕ) (bs rest : List ℕ) (n : ℕ) → number_up_to most bs ≡ accept (n, rest) → n ≤ most
unfolding number_up_to
read_most most bs rest n e = go (groups bs) e
  where
    held : (short low : Bool) (v : ℕ) (cs : List ℕ) → leb v most ≡ low → unless {A = ℕ × List ℕ} (short && low) 9 (accept (v, cs)) ≡ accept (n, rest) → n ≤ most
    held true true v cs l e = let z : ◌≡◌ {A = ℕ × List ℕ} (v, cs) (n, rest) = cc in rw (← (ap (λ (z : ℕ × List ℕ). z.0) z)) (leb-true v most l)
    held true false v cs l e = never 9 _ e
    held false low v cs l e = never 9 _ e

    go : (x : Grouped) → judged most x ≡ accept (n, rest) → n ≤ most
    go (accept r) e = held (shortest r.0) (leb (value_of r.0) most) (value_of r.0) r.1 refl e
    go (refuse k) e = never k _ e

-- ---- a number by its first bytes

pub number_none : (most : ℕ) → number_up_to most [] ≡ refuse 9
unfolding number_up_to groups
number_none most = refl

pub number_one : (most b : ℕ) (bs : List ℕ) → b < 128 → 127 ≤ most → number_up_to most (b ∷ bs) ≡ accept (b, bs)
unfolding number_up_to shortest value_of
number_one most b bs h k = rw (groups_last b bs h, add-zero b, le-leb b most (omega arith))

-- it ends after one byte or two that want another
pub number_one_short : (most b : ℕ) → 128 ≤ b → number_up_to most (b ∷ []) ≡ refuse 9
unfolding number_up_to groups
number_one_short most b h = rw (le-ltb b 128 h)

pub number_two_short : (most b c : ℕ) → 128 ≤ b → 128 ≤ c → number_up_to most (b ∷ c ∷ []) ≡ refuse 9
unfolding number_up_to groups
number_two_short most b c h k = rw (le-ltb b 128 h, le-ltb c 128 k)

pub number_two : (most b c : ℕ) (bs : List ℕ) → 128 ≤ b → c < 128
    → number_up_to most (b ∷ c ∷ bs) ≡ unless (not (eqb c 0) && leb (b - 128 + 128 * c) most) 9 (accept (b - 128 + 128 * c, bs))
unfolding number_up_to shortest value_of last_group
number_two most b c bs h k = rw (groups_more b (c ∷ bs) h, groups_last c bs k, add-zero c)

pub number_three : (most b c d : ℕ) (bs : List ℕ) → 128 ≤ b → 128 ≤ c → d < 128
    → number_up_to most (b ∷ c ∷ d ∷ bs)
    ≡ unless (not (eqb d 0) && leb (b - 128 + 128 * (c - 128 + 128 * d)) most) 9 (accept (b - 128 + 128 * (c - 128 + 128 * d), bs))
unfolding number_up_to shortest value_of last_group
number_three most b c d bs h k l = rw (groups_more b (c ∷ d ∷ bs) h, groups_more c (d ∷ bs) k, groups_last d bs l, add-zero d)

-- a number whose last group is not 0 is not 0
value_positive : (g : ℕ) (gs : List ℕ) → (last_group g gs ≡ 0 → ⊥) → 1 ≤ value_of (g ∷ gs)
unfolding value_of last_group
value_positive zero [] h = absurd (h refl)
value_positive (suc g) [] h = omega arith
value_positive g (k ∷ gs) h = let r : 1 ≤ value_of (k ∷ gs) = value_positive k gs h in omega arith

-- refused where the last group is 0, and where the value is over the limit otherwise
over : {A : Type 0} (most value last : ℕ) (r : Result A) → ((last ≡ 0 → ⊥) → most < value) → unless (not (eqb last 0) && leb value most) 9 r ≡ refuse 9
over most value zero r h = refl
over most value (suc last) r h = rw (eqb-suc-zero last, lt-leb value most (h (λ e. absurd (eqb-false (suc last) 0 (eqb-suc-zero last) e))))

-- a fourth byte is one too many
pub number_long : (most b c d : ℕ) (bs : List ℕ) → most < 2097152 → 128 ≤ b → 128 ≤ c → 128 ≤ d → number_up_to most (b ∷ c ∷ d ∷ bs) ≡ refuse 9
unfolding number_up_to shortest value_of last_group
number_long most b c d bs hm hb hc hd =
    rw (groups_more b (c ∷ d ∷ bs) hb, groups_more c (d ∷ bs) hc, groups_more d bs hd) (go (groups bs) (groups_read bs))
  where
    go : (x : Grouped) → Read x → judged most (before (b - 128) (before (c - 128) (before (d - 128) x))) ≡ refuse 9
    go (refuse n) h = ap refuse h
    go (accept r) h =
        rw h.2
        (over most _ (last_group h.0 h.1) _ (λ last. let p : 1 ≤ value_of (h.0 ∷ h.1) = value_positive h.0 h.1 last in omega arith))

-- ---- reading what was written

pub read_written : (most n : ℕ) (rest : List ℕ) → n ≤ most → 127 ≤ most → n < 2097152 → number_up_to most (bytes_of n ++ rest) ≡ accept (n, rest)
unfolding bytes_of
read_written most n rest h l k = go (ltb n 128) refl (ltb n 16384) refl
  where
    go : (one : Bool) → ltb n 128 ≡ one → (two : Bool) → ltb n 16384 ≡ two
        → number_up_to most ((if one then n ∷ [] else (if two then (n % 128 + 128) ∷ n / 128 ∷ [] else (n % 128 + 128) ∷ (n / 128 % 128 + 128) ∷ n / 16384 ∷ [])) ++ rest) ≡ accept (n, rest)
    go true e two f = number_one most n rest (ltb-true n 128 e) l
    go false e true f =
        let a : 128 ≤ n = ltb-false n 128 e in
        let b : n < 16384 = ltb-true n 16384 f in
        let v : n % 128 + 128 - 128 + 128 * (n / 128) ≡ n = omega arith in
        number_two most (n % 128 + 128) (n / 128) rest (omega arith) (omega arith)
        ∙ rw (v, ne_eqb (n / 128) 0 (omega arith), le-leb n most h)
    go false e false f =
        let a : 16384 ≤ n = ltb-false n 16384 f in
        let q : n / 128 / 128 ≡ n / 16384 = omega arith in
        let v : n % 128 + 128 - 128 + 128 * (n / 128 % 128 + 128 - 128 + 128 * (n / 16384)) ≡ n = omega arith in
        number_three most (n % 128 + 128) (n / 128 % 128 + 128) (n / 16384) rest (omega arith) (omega arith) (omega arith)
        ∙ rw (v, ne_eqb (n / 16384) 0 (omega arith), le-leb n most h)

-- ---- whatever is read is what writing gives

pub written_one : (b : ℕ) → b < 128 → bytes_of b ≡ b ∷ []
unfolding bytes_of
written_one b h = rw (lt-ltb b 128 h)

low : (g v : ℕ) → g < 128 → (g + 128 * v) % 128 ≡ g
low g v h = omega arith

high : (g v : ℕ) → g < 128 → (g + 128 * v) / 128 ≡ v
high g v h = omega arith

-- the byte that wants another, from its group
marked : (b : ℕ) → 128 ≤ b → b - 128 + 128 ≡ b
marked b h = omega arith

written_two : (b c : ℕ) → 128 ≤ b → b < 256 → c < 128 → (c ≡ 0 → ⊥) → bytes_of (b - 128 + 128 * c) ≡ b ∷ c ∷ []
unfolding bytes_of
written_two b c hb hb' hc h =
    let n : ℕ = b - 128 + 128 * c in
    rw (le-ltb n 128 (omega arith), lt-ltb n 16384 (omega arith), low (b - 128) c (omega arith), high (b - 128) c (omega arith), marked b hb)

written_three : (b c d : ℕ) → 128 ≤ b → b < 256 → 128 ≤ c → c < 256 → d < 128 → (d ≡ 0 → ⊥) → bytes_of (b - 128 + 128 * (c - 128 + 128 * d)) ≡ b ∷ c ∷ d ∷ []
unfolding bytes_of
written_three b c d hb hb' hc hc' hd h =
    let v : ℕ = c - 128 + 128 * d in
    let n : ℕ = b - 128 + 128 * v in
    let r : n / 16384 ≡ d = omega arith in
    rw (le-ltb n 128 (omega arith), le-ltb n 16384 (omega arith), low (b - 128) v (omega arith), high (b - 128) v (omega arith), low (c - 128) d (omega arith), marked b hb, marked c hc, r)

-- what a test accepted
accepted : {A : Type 0} (last value most : ℕ) (x y : A) → unless (not (eqb last 0) && leb value most) 9 (accept x) ≡ accept y → (last ≡ 0 → ⊥) × (x ≡ y)
accepted zero value most x y e = absurd (let z : ◌≡◌ {A = ℕ} 0 1 = cc in omega arith)
accepted (suc last) value most x y e = go (leb value most) (rw (eqb-suc-zero last) at e)
  where
    go : (b : Bool) → unless b 9 (accept x) ≡ accept y → (suc last ≡ 0 → ⊥) × (x ≡ y)
    go true f = (λ z. eqb-false (suc last) 0 (eqb-suc-zero last) z, cc)
    go false f = absurd (let z : ◌≡◌ {A = ℕ} 0 1 = cc in omega arith)

abbrev pub Bytes : List ℕ → Type 0
Bytes [] = Unit {0}
Bytes (b ∷ bs) = (b < 256) × Bytes bs

-- below or not
pub side : (b n : ℕ) → (b < n) ⊎ (n ≤ b)
side b n = go (ltb b n) refl
  where
    go : (t : Bool) → ltb b n ≡ t → (b < n) ⊎ (n ≤ b)
    go true e = inl (ltb-true b n e)
    go false e = inr (ltb-false b n e)

module _ (most : ℕ) (small : most < 2097152) (large : 127 ≤ most) (n : ℕ) (rest : List ℕ) where
  abbrev Gives : List ℕ → Type 0
  Gives bs = number_up_to most bs ≡ accept (n, rest) → bs ≡ bytes_of n ++ rest

  -- the bytes of x, and what was left, are those of n
  written : (x : ℕ) (bs xs : List ℕ) → bytes_of x ≡ xs → ◌≡◌ {A = ℕ × List ℕ} (x, bs) (n, rest) → xs ++ bs ≡ bytes_of n ++ rest
  written x bs xs w e = rw (← w) (ap (λ (y : ℕ × List ℕ). bytes_of y.0 ++ y.1) e)

  third : (b c d : ℕ) (bs : List ℕ) → 128 ≤ b → b < 256 → 128 ≤ c → c < 256 → (d < 128) ⊎ (128 ≤ d) → Gives (b ∷ c ∷ d ∷ bs)
  third b c d bs hb hb' hc hc' (inl h) e =
      let a = accepted d (b - 128 + 128 * (c - 128 + 128 * d)) most _ _ (sym (number_three most b c d bs hb hc h) ∙ e) in
      written _ bs (b ∷ c ∷ d ∷ []) (written_three b c d hb hb' hc hc' h a.0) a.1
  third b c d bs hb hb' hc hc' (inr h) e = never 9 _ (sym (number_long most b c d bs small hb hc h) ∙ e)

  second : (b c : ℕ) (bs : List ℕ) → 128 ≤ b → b < 256 → c < 256 → (c < 128) ⊎ (128 ≤ c) → Gives (b ∷ c ∷ bs)
  second b c bs hb hb' hc (inl h) e =
      let a = accepted c (b - 128 + 128 * c) most _ _ (sym (number_two most b c bs hb h) ∙ e) in
      written _ bs (b ∷ c ∷ []) (written_two b c hb hb' h a.0) a.1
  second b c [] hb hb' hc (inr h) e = never 9 _ (sym (number_two_short most b c hb h) ∙ e)
  second b c (d ∷ bs) hb hb' hc (inr h) e = third b c d bs hb hb' h hc (side d 128) e

  first : (b : ℕ) (bs : List ℕ) → b < 256 → Bytes bs → (b < 128) ⊎ (128 ≤ b) → Gives (b ∷ bs)
  first b bs hb h (inl l) e = written b bs (b ∷ []) (written_one b l) (let f : ◌≡◌ {A = Result (ℕ × List ℕ)} (accept (b, bs)) (accept (n, rest)) = sym (number_one most b bs l large) ∙ e in cc)
  first b [] hb h (inr l) e = never 9 _ (sym (number_one_short most b l) ∙ e)
  first b (c ∷ bs) hb h (inr l) e = second b c bs l hb h.0 (side c 128) e

  pub written_read : (bs : List ℕ) → Bytes bs → Gives bs
  written_read [] h e = never 9 _ (sym (number_none most) ∙ e)
  written_read (b ∷ bs) h e = first b bs h.0 h.1 (side b 128) e

-- ---- a bound that is tested behind a wider one

-- what was read, held to the limit
abbrev pub held : ℕ → Result (ℕ × List ℕ) → Result (ℕ × List ℕ)
held most x = x >>= λ r. unless (leb r.0 most) 9 (accept r)

pub narrowed : (most wide : ℕ) (bs : List ℕ) → most ≤ wide → number_up_to most bs ≡ held most (number_up_to wide bs)
unfolding number_up_to
narrowed most wide bs h = go (groups bs)
  where
    test : (s : Bool) (r : ℕ × List ℕ) → (wide < r.0) ⊎ (r.0 ≤ wide) → unless (s && leb r.0 most) 9 (accept r) ≡ held most (unless (s && leb r.0 wide) 9 (accept r))
    test false r k = refl
    test true r (inl k) = rw (lt-leb r.0 wide k, lt-leb r.0 most (omega (arith, h, k))) refl
    test true r (inr k) = rw (le-leb r.0 wide k) refl

    go : (x : Grouped) → judged most x ≡ held most (judged wide x)
    go (refuse n) = refl
    go (accept r) = test (shortest r.0) (value_of r.0, r.1) (side wide (value_of r.0))
