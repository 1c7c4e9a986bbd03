-- A reader and a writer that undo each other: the reader accepts the bytes of the numbers that the writer gives, and no other
-- bytes. It is so of one number, since its shortest form is its only one (Numbers); and if it is so of two things, it is so of one
-- after the other, of a choice between them by a number, and of a list behind its count. So each part of a map file is a line.
use Prim.Native.Nat.{ℕ, zero, suc, ◌≤◌}
use native.Mathlib.Omega.{arith}
use mathlib.Core.Path.{◌≡◌, refl, sym, ap, ◌∙◌, subst}
use mathlib.Core.Bool.{Bool, true, false, ◌&&◌, and_assoc, and-true}
use mathlib.Core.List.{List, [], ◌∷◌, ◌++◌, flat_map, append-nil, append_assoc}
use lib.Dec.{T, leb, eqb, leb→le, le→leb, eqb-suc-zero, eqb-zero-suc, eqb-suc-suc, eqb→eq}
use lib.ListN.{length, drop}
use Rattle.rules.specs.Basics.{Result, accept, refuse, unless, every}
use Rattle.rules.specs.Values.{largest}
use Rattle.rules.specs.Numbers.{number, number_up_to, bytes_of}
use Rattle.rules.specs.MapFile.{Reader, then_read, give, lifted, such, up_to, times, list_of}
use Rattle.rules.specs.Writing.{in_bytes, alone, listed}
use Rattle.rules.proofs.Numbers.{never, Bytes, read_most, read_written, written_read}
use Rattle.rules.proofs.Tests.{T_and, and_T, eqb_same}

-- ---- numbers in a row

-- the numbers are of 16 bits, as all numbers of the code are
unfoldable pub small : List ℕ → Bool
small ns = every (λ n. leb n largest) ns

bytes_append : (ms ns : List ℕ) → in_bytes (ms ++ ns) ≡ in_bytes ms ++ in_bytes ns
unfolding in_bytes flat_map
bytes_append [] ns = refl
bytes_append (m ∷ ms) ns = rw (bytes_append ms ns) (sym (append_assoc (bytes_of m) (in_bytes ms) (in_bytes ns)))

small_append : (ms ns : List ℕ) → small (ms ++ ns) ≡ (small ms && small ns)
unfolding small every
small_append [] ns = refl
small_append (m ∷ ms) ns = rw (small_append ms ns) (sym (and_assoc (leb m largest) (small ms) (small ns)))

bytes_after : (bs cs : List ℕ) → Bytes (bs ++ cs) → Bytes cs
bytes_after [] cs h = h
bytes_after (b ∷ bs) cs h = bytes_after bs cs h.1

-- ---- the notion

-- bytes that were read are the writer's numbers for some b that stands for what was read, and the rest
pub record Wrote {B X : Type 0} (R : B → X → Type 0) (w : B → List ℕ) (x : X) (bs rest : List ℕ) : Type 0 where
  pub from : B
  pub stands : R from x
  pub fits : T (small (w from))
  pub same : bs ≡ in_bytes (w from) ++ rest

-- `R b x`: b is written where x is read
pub record Undoes {B X : Type 0} (R : B → X → Type 0) (w : B → List ℕ) (r : Reader X) : Type 0 where
  pub reads : (b : B) (x : X) (rest : List ℕ) → R b x → T (small (w b)) → r (in_bytes (w b) ++ rest) ≡ accept (x, rest)
  pub writes : (bs rest : List ℕ) (x : X) → Bytes bs → r bs ≡ accept (x, rest) → Wrote R w x bs rest

-- x is what is made of b, which passes the test
pub record Is {B X : Type 0} (ok : B → Bool) (made : B → X) (b : B) (x : X) : Type 0 where
  pub holds : T (ok b)
  pub gives : made b ≡ x

-- ---- one after another

-- b, then c
pub record Then {A B X : Type 0} {C : B → Type 0} (P : B → A → Type 0) (Q : (b : B) → A → C b → X → Type 0) (bc : (b : B) × C b) (x : X) : Type 0 where
  pub middle : A
  pub first : P bc.0 middle
  pub second : Q bc.0 middle bc.1 x

module _ {A B X : Type 0} {C : B → Type 0} {P : B → A → Type 0} {Q : (b : B) → A → C b → X → Type 0} {w : B → List ℕ} {v : (b : B) → C b → List ℕ} {r : Reader A} {f : A → Reader X} where
  pub then_any : Undoes P w r → ((b : B) (a : A) → P b a → Undoes (Q b a) (v b) (f a)) → Undoes (Then P Q) (λ bc. w bc.0 ++ v bc.0 bc.1) (λ bs. then_read (r bs) f)
  then_any u k = record { reads = reads; writes = λ bs rest x h e. writes bs rest x h (r bs) refl e }
    where
      reads : (bc : (b : B) × C b) (x : X) (rest : List ℕ) → Then P Q bc x → T (small (w bc.0 ++ v bc.0 bc.1))
          → then_read (r (in_bytes (w bc.0 ++ v bc.0 bc.1) ++ rest)) f ≡ accept (x, rest)
      reads (b, c) x rest h s =
          let s₁ = T_and (small (w b)) (small (v b c)) (rw (small_append (w b) (v b c)) at s) in
          rw (bytes_append (w b) (v b c), append_assoc (in_bytes (w b)) (in_bytes (v b c)) rest, u.reads b h.middle (in_bytes (v b c) ++ rest) h.first s₁.0)
          ((k b h.middle h.first).reads c x rest h.second s₁.1)

      writes : (bs rest : List ℕ) (x : X) → Bytes bs → (y : Result (A × List ℕ)) → r bs ≡ y → then_read y f ≡ accept (x, rest)
          → Wrote (Then P Q) (λ bc. w bc.0 ++ v bc.0 bc.1) x bs rest
      writes bs rest x h (accept (a, cs)) e g =
          let m = u.writes bs cs a h e in
          let n = (k m.from a m.stands).writes cs rest x (bytes_after (in_bytes (w m.from)) cs (subst Bytes m.same h)) g in
          record {
            from = (m.from, n.from);
            stands = record { middle = a; first = m.stands; second = n.stands };
            fits = rw (small_append (w m.from) (v m.from n.from)) (and_T (small (w m.from)) (small (v m.from n.from)) m.fits n.fits);
            same =
                m.same ∙ ap (λ cs. in_bytes (w m.from) ++ cs) n.same
                ∙ sym (append_assoc (in_bytes (w m.from)) (in_bytes (v m.from n.from)) rest)
                ∙ ap (λ bs. bs ++ rest) (sym (bytes_append (w m.from) (v m.from n.from)));
          }
      writes bs rest x h (refuse n) e g = never n _ g

-- ---- the same numbers, for other values

-- some c stands for the same and is written the same
pub record Like {C X : Type 0} (R : C → X → Type 0) (v : C → List ℕ) (ns : List ℕ) (x : X) : Type 0 where
  pub other : C
  pub stands : R other x
  pub same : v other ≡ ns

module _ {B C X : Type 0} {S : B → X → Type 0} {R : C → X → Type 0} {w : B → List ℕ} {v : C → List ℕ} {r : Reader X} where
  pub along : ((b : B) (x : X) → S b x → Like R v (w b) x) → ((c : C) (x : X) → R c x → Like S w (v c) x) → Undoes R v r → Undoes S w r
  along there back u = record { reads = reads; writes = writes }
    where
      reads : (b : B) (x : X) (rest : List ℕ) → S b x → T (small (w b)) → r (in_bytes (w b) ++ rest) ≡ accept (x, rest)
      reads b x rest h s = let l = there b x h in rw (← l.same) (u.reads l.other x rest l.stands (rw (← l.same) at s))

      writes : (bs rest : List ℕ) (x : X) → Bytes bs → r bs ≡ accept (x, rest) → Wrote S w x bs rest
      writes bs rest x h g =
          let m = u.writes bs rest x h g in
          let l = back m.from x m.stands in
          record { from = l.other; stands = l.stands; fits = rw l.same m.fits; same = rw l.same m.same }

-- the same reader, written otherwise
restated : {B X : Type 0} {R : B → X → Type 0} {w : B → List ℕ} {r q : Reader X} → ((bs : List ℕ) → r bs ≡ q bs) → Undoes R w r → Undoes R w q
restated e u = record {
  reads = λ b x rest h s. sym (e _) ∙ u.reads b x rest h s;
  writes = λ bs rest x h g. u.writes bs rest x h (e bs ∙ g);
}

then_then : {A B X : Type 0} (x : Result (A × List ℕ)) (f : A → Reader B) (g : B → Reader X) → then_read (then_read x f) g ≡ then_read x (λ a cs. then_read (f a cs) g)
then_then (accept y) f g = refl
then_then (refuse n) f g = refl

-- the first of two, read by a reader of its own
pub nested : {A B C X : Type 0} {R : C → X → Type 0} {w : C → List ℕ} (r : Reader A) (f : A → Reader B) (g : B → Reader X)
    → Undoes R w (λ bs. then_read (then_read (r bs) f) g) → Undoes R w (λ bs. then_read (r bs) (λ a cs. then_read (f a cs) g))
nested r f g u = restated (λ bs. then_then (r bs) f g) u

-- what is come to without reading
pub coming : {X : Type 0} (m : Result X) → Undoes (λ (_ : Unit {0}) x. m ≡ accept x) (λ _. []) (lifted m)
unfolding in_bytes small every flat_map
coming {X} (accept y) = record {
  reads = λ _ x rest e s. let z : y ≡ x = cc in ap (λ x. accept (x, rest)) z;
  writes = λ bs rest x h e. let z : ◌≡◌ {A = X × List ℕ} (y, bs) (x, rest) = cc in record { from = tt; stands = ap (λ z. accept z.0) z; fits = tt; same = ap (λ z. z.1) z };
}
coming (refuse n) = record { reads = λ _ x rest e s. never n x e; writes = λ bs rest x h e. never n (x, rest) e }

-- ---- values

-- the values that pass a test, each read as it was written
abbrev pub Format : {X : Type 0} → (X → Bool) → (X → List ℕ) → Reader X → Type 0
Format ok w r = Undoes (Is ok (λ x. x)) w r

-- what is come to without reading, if a test holds
pub come : {X : Type 0} (b : Bool) (x : X) → Undoes (Is (λ (_ : Unit {0}). b) (λ _. x)) (λ _. []) (λ bs. unless b 1 (accept (x, bs)))
come true x =
    along (λ _ y h. record { other = tt; stands = ap accept h.gives; same = refl }) (λ _ y e. record { other = tt; stands = record { holds = tt; gives = cc }; same = refl })
    (coming (accept x))
come false x = along (λ _ y h. absurd h.holds) (λ _ y e. never 1 y e) (coming (refuse 1))

module _ {A X : Type 0} {C : A → Type 0} {p : A → Bool} {w : A → List ℕ} {r : Reader A} {q : (a : A) → C a → Bool} {made : (a : A) → C a → X} {v : (a : A) → C a → List ℕ} {f : A → Reader X} where
  pub then : Format p w r → ((a : A) → Undoes (Is (q a) (made a)) (v a) (f a))
      → Undoes (Is (λ ac. p ac.0 && q ac.0 ac.1) (λ ac. made ac.0 ac.1)) (λ (ac : (a : A) × C a). w ac.0 ++ v ac.0 ac.1) (λ bs. then_read (r bs) f)
  then u k =
      along
      (λ (a, c) x h. let t = T_and (p a) (q a c) h.holds in record {
        other = (a, c);
        stands = record { middle = a; first = record { holds = t.0; gives = refl }; second = record { holds = t.1; gives = h.gives } };
        same = refl;
      })
      (λ (a, c) x h. record { other = (a, c); stands = record { holds = and_T (p a) (q a c) h.first.holds h.second.holds; gives = h.second.gives }; same = refl })
      (then_any u (λ b a h. subst (λ a. Undoes (Is (q b) (made b)) (v b) (f a)) h.gives (k b)))

module _ {A X : Type 0} {p : A → Bool} {w : A → List ℕ} {r : Reader A} where
  -- the last of what a value is made of
  pub last : Format p w r → (made : A → X) → Undoes (Is p made) w (λ bs. then_read (r bs) (λ a. give (made a)))
  last u made =
      along
      (λ a x h. record { other = (a, tt); stands = record { holds = and_T (p a) true h.holds tt; gives = h.gives }; same = append-nil (w a) })
      (λ (a, _) x h. record { other = a; stands = record { holds = (T_and (p a) true h.holds).0; gives = h.gives }; same = sym (append-nil (w a)) })
      (then u (λ a. come true (made a)))

module _ {C X : Type 0} {ok : X → Bool} {w : X → List ℕ} {q : C → Bool} {made : C → X} {v : C → List ℕ} {r : Reader X} where
  -- a value is made of what was read, and taken apart to be written
  pub value : (apart : X → C) → ((x : X) → T (ok x) → (made (apart x) ≡ x) × T (q (apart x))) → ((c : C) → T (q c) → (v c ≡ w (made c)) × T (ok (made c)))
      → Undoes (Is q made) v r → Format ok w r
  value apart there back u =
      along
      (λ y x h. let t = there y h.holds in record {
        other = apart y;
        stands = record { holds = t.1; gives = t.0 ∙ h.gives };
        same = (back (apart y) t.1).0 ∙ ap w t.0;
      })
      (λ c x h. let b = back c h.holds in record { other = made c; stands = record { holds = b.1; gives = h.gives }; same = sym b.0 }) u

-- ---- numbers

pub a_number : Format (λ _. true) alone number
unfolding in_bytes small every flat_map number
a_number = record { reads = reads; writes = writes }
  where
    reads : (n m : ℕ) (rest : List ℕ) → Is (λ _. true) (λ n. n) n m → T (leb n largest && true) → number_up_to largest ((bytes_of n ++ []) ++ rest) ≡ accept (m, rest)
    reads n m rest h s =
        let l : n ≤ largest = leb→le n largest (T_and (leb n largest) true s).0 in
        rw (append-nil (bytes_of n), ← h.gives) (read_written largest n rest l (omega arith) (omega arith))

    writes : (bs rest : List ℕ) (n : ℕ) → Bytes bs → number bs ≡ accept (n, rest) → Wrote (Is (λ _. true) (λ n. n)) alone n bs rest
    writes bs rest n h e = record {
      from = n;
      stands = record { holds = tt; gives = refl };
      fits = and_T (leb n largest) true (le→leb n largest (read_most largest bs rest n e)) tt;
      same = rw (append-nil (bytes_of n)) (written_read largest (omega arith) (omega arith) n rest bs h e);
    }

-- a number whose range is tested
pub such_number : (p : ℕ → Bool) → Format p alone (such p)
such_number p = value (λ n. (n, tt)) (λ n h. (refl, h)) (λ c h. (refl, h)) (then a_number (λ n. come (p n) n))

-- ---- choices: a number says how to go on

-- one way, for the number k
pub record Way {X : Type 0} (ok : X → Bool) (w : X → List ℕ) (most k : ℕ) (r : Reader X) : Type 1 where
  pub Rest : Type 0
  pub made : Rest → X
  pub by : Undoes (Is (λ c. ok (made c)) made) (λ c. drop 1 (w (made c))) r
  pub same : T (leb k most) → (c : Rest) → k ∷ drop 1 (w (made c)) ≡ w (made c)

module _ {X : Type 0} {ok : X → Bool} {w : X → List ℕ} {most k : ℕ} {r : Reader X} where
  abbrev pub way : {C : Type 0} {made : C → X} → Undoes (Is (λ c. ok (made c)) made) (λ c. drop 1 (w (made c))) r → (T (leb k most) → (c : C) → k ∷ drop 1 (w (made c)) ≡ w (made c)) → Way ok w most k r
  way {C} {made} u e = record { Rest = C; made = made; by = u; same = e }

module _ {X : Type 0} {ok : X → Bool} {w : X → List ℕ} {f : ℕ → Reader X} (most : ℕ) (ways : (k : ℕ) → Way ok w most k (f k)) where
  -- the value goes one of the ways
  pub record Goes (x : X) : Type 0 where
    pub kind : ℕ
    pub within : T (leb kind most)
    pub rest : (ways kind).Rest
    pub made : (ways kind).made rest ≡ x

  pub choice : ((x : X) → Goes x) → Format ok w (λ bs. then_read (up_to most bs) f)
  choice goes =
      value {C = (k : ℕ) × (ways k).Rest} (λ x. ((goes x).kind, (goes x).rest))
      (λ x h. let g = goes x in (g.made, and_T (leb g.kind most) _ g.within (subst (λ y. T (ok y)) (sym g.made) h)))
      (λ c h. let t = T_and (leb c.0 most) _ h in ((ways c.0).same t.0 c.1, t.1))
      (then (such_number (λ n. leb n most)) (λ k. (ways k).by))

-- ---- lists behind a count

module _ {A : Type 0} {ok : A → Bool} {w : A → List ℕ} {r : Reader A} (u : Format ok w r) where
  abbrev so_many : ℕ → List A → Bool
  so_many n xs = every ok xs && eqb (length xs) n

  one_more : (n : ℕ) (x : A) (xs : List A) → so_many (suc n) (x ∷ xs) ≡ (ok x && so_many n xs)
  unfolding every
  one_more n x xs = rw (eqb-suc-suc (length xs) n) (and_assoc (ok x) (every ok xs) (eqb (length xs) n))

  many : (n : ℕ) → Format (so_many n) (flat_map w) (times n r)
  unfolding times every flat_map
  many zero = value (λ _. tt) no_more (λ _ h. (refl, tt)) (come true [])
    where
      no_more : (xs : List A) → T (so_many 0 xs) → ([] ≡ xs) × Unit {0}
      no_more [] h = (refl, tt)
      no_more (x ∷ xs) h = absurd (rw (eqb-suc-zero (length xs)) at (T_and (every ok (x ∷ xs)) _ h).1)
  many (suc n) = along there back (then u (λ x. last (many n) (λ xs. x ∷ xs)))
    where
      there : (xs ys : List A) → Is (so_many (suc n)) (λ xs. xs) xs ys
          → Like (Is (λ (c : A × List A). ok c.0 && so_many n c.1) (λ c. c.0 ∷ c.1)) (λ c. w c.0 ++ flat_map w c.1) (flat_map w xs) ys
      there [] ys h = absurd (rw (eqb-zero-suc n) at h.holds)
      there (x ∷ xs) ys h = record { other = (x, xs); stands = record { holds = subst T (one_more n x xs) h.holds; gives = h.gives }; same = refl }

      back : (c : A × List A) (ys : List A) → Is (λ (c : A × List A). ok c.0 && so_many n c.1) (λ c. c.0 ∷ c.1) c ys
          → Like (Is (so_many (suc n)) (λ xs. xs)) (flat_map w) (w c.0 ++ flat_map w c.1) ys
      back (x, xs) ys h = record { other = x ∷ xs; stands = record { holds = subst T (sym (one_more n x xs)) h.holds; gives = h.gives }; same = refl }

  counted : (xs : List A) → so_many (length xs) xs ≡ every ok xs
  counted xs = rw (eqb_same (length xs)) (and-true (every ok xs))

  pub list_of_lem : (most : ℕ) → Format (λ xs. leb (length xs) most && every ok xs) (listed w) (list_of most r)
  unfolding listed
  list_of_lem most = value (λ xs. (length xs, xs)) (λ xs h. (refl, rw (counted xs) h)) (λ c h. back c.0 c.1 h) (then (such_number (λ n. leb n most)) (λ n. many n))
    where
      back : (n : ℕ) (xs : List A) → T (leb n most && so_many n xs) → (n ∷ flat_map w xs ≡ length xs ∷ flat_map w xs) × T (leb (length xs) most && every ok xs)
      back n xs h =
          let e : n ≡ length xs = sym (eqb→eq (length xs) n (T_and (every ok xs) _ (T_and (leb n most) (so_many n xs) h).1).1) in
          let g : T (leb (length xs) most && so_many (length xs) xs) = subst (λ n. T (leb n most && so_many n xs)) e h in
          (ap (λ n. n ∷ flat_map w xs) e, rw (counted xs) at g)
