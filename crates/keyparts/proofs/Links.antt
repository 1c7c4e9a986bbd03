-- Why an index leads to the first edge with a key. An edge that goes before its chain becomes the chain's first, and its link leads
-- to what was the first before. No link led to its place, so the others lead where they led, and a search for its key goes along
-- the chain that it is on. An index is made so from the last edge to the first; and an edge that goes behind the last one, with a
-- key that none has, may be the first of its chain as well.
use Rattle.std.specs.Prelude.{if◌then◌else◌}
use Prim.Native.Nat.{ℕ, zero, suc, ◌+◌, ◌-◌, ◌*◌, ◌/◌, ◌%◌, ◌<◌, ◌≤◌}
use mathlib.Core.Path.{◌≡◌, refl, sym, ap, ◌∙◌, subst}
use mathlib.Core.Bool.{Bool, true, false}
use mathlib.Core.List.{List, [], ◌∷◌, ◌++◌, map, append_assoc}
use mathlib.Core.Option.{none, some}
use native.Mathlib.Omega.{arith}
use Rattle.std.proofs.lemmas.Bool.Decides.{nat_tests}
use lib.Dec.{ltb, eqb}
use lib.ListN.{length, take, drop, set, get_or, replicate, length-set, length-take, length-append, length-replicate, get_or-replicate, drop_of_length-le, get_or-append}
use lib.Seq.{take_all, drop-cons, get_or-set_same, get_or-set_other, get_or-append_seam}
use borrow.Author.Tests.{lt-ltb, le-ltb, eq-eqb, ne_eqb, eqb-true, eqb-false, ltb-true, ltb-false}
use Rattle.rules.specs.Values.{Event}
use Rattle.rules.specs.Tables.{ClassEntry}
use Rattle.rules.specs.Graph.{is_edge, end_in, get_edge, follow_first, follow_edge, events_of, or_else_by, lastly}
use Rattle.keyvalues.specs.View.{event_at, event_code}
use Rattle.keyparts.specs.declared.edge.EdgeWord.{EdgeWord}
use Rattle.keyparts.specs.View.{no_edge, key_in, edge_of, edge_words, graph_of, first_place, key_is, chain_of, place_on, linked_place, end_at, linked_end, link_at, word_put, end_of, follow_links, Indexed}
use Rattle.keyparts.specs.Pass.{words_on}
use Rattle.keyparts.specs.declared.graph.Graph.{Graph}
use Rattle.rules.proofs.Tests.{and_l, and_r, by_cases, event_is}
use Rattle.keyvalues.proofs.Words.{code_event}
use Rattle.keyparts.proofs.Edges.{edge_key}
use Rattle.keyparts.proofs.Finds.{first_most, first_has, word_over, word_behind, word_nowhere}

-- ---- the words of the edges

pub edges_short : (x : Graph) → length (edge_words x) ≤ 2048
unfolding edge_words
edges_short x = omega (arith, length-take 2048 (take x.counts.edges x.edges))

pub edges_all : (x : Graph) → length x.edges ≡ 2048 → take x.counts.edges x.edges ≡ edge_words x
unfolding edge_words
edges_all x h = sym (take_all 2048 (take x.counts.edges x.edges) (omega (arith, length-take x.counts.edges x.edges)))

-- ---- tests

ltb_zero : (n : ℕ) → ltb 0 (suc n) ≡ true
ltb_zero n = grind (arith, nat_tests)

ltb_suc : (a b : ℕ) → ltb (suc a) (suc b) ≡ ltb a b
ltb_suc a b = grind (arith, nat_tests)

-- ---- chains

-- for keys and for other events alike
chain_within : (b : Bool) (x y : ℕ) → (2048 ≤ (if b then 2048 + x % 1024 else 3072 + y % 256)) × ((if b then 2048 + x % 1024 else 3072 + y % 256) < 3328)
chain_within true x y = (omega arith, omega arith)
chain_within false x y = (omega arith, omega arith)

pub chain_from : (key : ℕ) → 2048 ≤ chain_of key
unfolding chain_of
chain_from key = (chain_within (ltb (key / 65536) 65536) (key * 1607379325 / 4194304) key).0

pub chain_below : (key : ℕ) → chain_of key < 3328
unfolding chain_of
chain_below key = (chain_within (ltb (key / 65536) 65536) (key * 1607379325 / 4194304) key).1

-- ---- a place goes before a chain
module _ (ls : List ℕ) (q key : ℕ) (long : length ls ≡ 3328) (hq : q < 2048) where
  pub link_is : link_at ls q key ≡ set (set ls q (get_or ls (chain_of key) 0)) (chain_of key) q
  unfolding link_at
  link_is = rw (lt-ltb q 2048 hq)

  -- the chain begins with the place, whose link leads to what was the first before; the other links stay
  first_new : get_or (link_at ls q key) (chain_of key) 0 ≡ q
  first_new = rw link_is (get_or-set_same (set ls q (get_or ls (chain_of key) 0)) (chain_of key) q 0 (rw (length-set ls q (get_or ls (chain_of key) 0), long) (chain_below key)))

  link_new : get_or (link_at ls q key) q 0 ≡ get_or ls (chain_of key) 0
  link_new =
      let d : q ≡ chain_of key → ⊥ = λ e. absurd (omega (arith, chain_from key, e)) in
      rw link_is (get_or-set_other (set ls q (get_or ls (chain_of key) 0)) (chain_of key) q q 0 d ∙ get_or-set_same ls q (get_or ls (chain_of key) 0) 0 (rw long (omega arith)))

  link_old : (p : ℕ) → (p ≡ q → ⊥) → (p ≡ chain_of key → ⊥) → get_or (link_at ls q key) p 0 ≡ get_or ls p 0
  link_old p d f = rw link_is (get_or-set_other (set ls q (get_or ls (chain_of key) 0)) (chain_of key) p q 0 f ∙ get_or-set_other ls q p (get_or ls (chain_of key) 0) 0 d)

  link_long : length (link_at ls q key) ≡ 3328
  link_long = rw link_is (length-set (set ls q (get_or ls (chain_of key) 0)) (chain_of key) q ∙ length-set ls q (get_or ls (chain_of key) 0) ∙ long)

  -- what holds of the place and of every link holds of every link after
  every_link : (P : ℕ → Type 0) → P q → ((p : ℕ) → p < 3328 → P (get_or ls p 0)) → (p : ℕ) → p < 3328 → P (get_or (link_at ls q key) p 0)
  every_link P h all p l =
      by_cases (eqb p (chain_of key))
      (λ e. subst P (sym (ap (λ (i : ℕ). get_or (link_at ls q key) i 0) (eqb-true p (chain_of key) e) ∙ first_new)) h)
      (λ e. by_cases (eqb p q)
      (λ f. subst P (sym (ap (λ (i : ℕ). get_or (link_at ls q key) i 0) (eqb-true p q f) ∙ link_new)) (all (chain_of key) (chain_below key)))
      (λ f. subst P (sym (link_old p (eqb-false p q f) (eqb-false p (chain_of key) e))) (all p l)))

-- ---- the same as the search sees it: w is the word at the place, to which no link leads yet
module _ (ws : List EdgeWord) (short : length ws ≤ 2048) (ls : List ℕ) (long : length ls ≡ 3328) (q : ℕ) (w : EdgeWord) (hq : q < length ws) (at : get_or ws q no_edge ≡ w)
    (away : (p : ℕ) → p < 3328 → get_or ls p 0 ≡ q → ⊥) where
  low_place : q < 2048
  low_place = omega arith

  -- from any other place a search goes as before
  behind : (key k p : ℕ) → (p ≡ q → ⊥) → place_on k ws (link_at ls q (key_in w)) key p ≡ place_on k ws ls key p
  unfolding place_on
  behind key zero p d = refl
  behind key (suc k) p d = go (behind key k) (ltb p (length ws)) refl
    where
      go : ((p : ℕ) → (p ≡ q → ⊥) → place_on k ws (link_at ls q (key_in w)) key p ≡ place_on k ws ls key p) → (b : Bool) → ltb p (length ws) ≡ b
          → (if b then (if key_is key (get_or ws p no_edge) then p else place_on k ws (link_at ls q (key_in w)) key (get_or (link_at ls q (key_in w)) p 0)) else length ws)
          ≡ (if b then (if key_is key (get_or ws p no_edge) then p else place_on k ws ls key (get_or ls p 0)) else length ws)
      go on false e = refl
      go on true e =
          let b = ltb-true p (length ws) e in
          let f : p ≡ chain_of (key_in w) → ⊥ = λ z. absurd (omega (arith, chain_from (key_in w), z)) in
          let l : p < 3328 = omega arith in
          ap (λ (r : ℕ). if key_is key (get_or ws p no_edge) then p else r)
          (ap (place_on k ws (link_at ls q (key_in w)) key) (link_old ls q (key_in w) long low_place p d f) ∙ on (get_or ls p 0) (away p l))

  -- if the search led to x before, it leads to the place now where that has the key
  module _ (key most x : ℕ) (before : (k : ℕ) → most ≤ k → place_on k ws ls key (get_or ls (chain_of key) 0) ≡ x) where
    -- on its own chain the word is looked at first
    own : (k : ℕ) → most ≤ k → chain_of key ≡ chain_of (key_in w) → place_on (suc k) ws (link_at ls q (key_in w)) key q ≡ (if key_is key w then q else x)
    unfolding place_on
    own k m e =
        rw (lt-ltb q (length ws) hq, at)
        (ap (λ (r : ℕ). if key_is key w then q else r)
        (ap (place_on k ws (link_at ls q (key_in w)) key) (link_new ls q (key_in w) long low_place)
        ∙ behind key k (get_or ls (chain_of (key_in w)) 0) (away (chain_of (key_in w)) (chain_below (key_in w)))
        ∙ ap (λ (c : ℕ). place_on k ws ls key (get_or ls c 0)) (sym e)
        ∙ before k m))

    -- a word on another chain has another key
    other : (b : Bool) → key_is key w ≡ b → (chain_of key ≡ chain_of (key_in w) → ⊥) → x ≡ (if b then q else x)
    unfolding key_is
    other false e d = refl
    other true e d = absurd (d (ap chain_of (sym (eqb-true (key_in w) key e))))

    placed : (k : ℕ) → suc most ≤ k → place_on k ws (link_at ls q (key_in w)) key (get_or (link_at ls q (key_in w)) (chain_of key) 0) ≡ (if key_is key w then q else x)
    placed zero m = absurd (omega arith)
    placed (suc k) m =
        by_cases (eqb (chain_of key) (chain_of (key_in w)))
        (λ e. let c = eqb-true (chain_of key) (chain_of (key_in w)) e in
        ap (λ (i : ℕ). place_on (suc k) ws (link_at ls q (key_in w)) key (get_or (link_at ls q (key_in w)) i 0)) c
        ∙ ap (place_on (suc k) ws (link_at ls q (key_in w)) key) (first_new ls q (key_in w) long low_place)
        ∙ own k (omega arith) c)
        (λ e. let c = eqb-false (chain_of key) (chain_of (key_in w)) e in
        let d : chain_of key ≡ q → ⊥ = λ z. absurd (omega (arith, chain_from key, z, low_place)) in
        ap (place_on (suc k) ws (link_at ls q (key_in w)) key) (link_old ls q (key_in w) long low_place (chain_of key) d c)
        ∙ behind key (suc k) (get_or ls (chain_of key) 0) (away (chain_of key) (chain_below key))
        ∙ before (suc k) (omega arith)
        ∙ other (key_is key w) refl c)

place_out : (ws : List EdgeWord) (ls : List ℕ) (key k i : ℕ) → length ws ≤ i → place_on k ws ls key i ≡ length ws
unfolding place_on
place_out ws ls key zero i h = refl
place_out ws ls key (suc k) i h = rw (le-ltb i (length ws) h)

-- ---- an index of all words is made from the last to the first

first_next : (ws : List EdgeWord) (i : ℕ) → i < length ws → (key : ℕ) (b : Bool) → key_is key (get_or ws i no_edge) ≡ b
    → (if b then i else suc i + first_place (key_is key) (drop (suc i) ws)) ≡ i + first_place (key_is key) (drop i ws)
unfolding first_place
first_next ws i l key true e = rw (drop-cons ws i no_edge l, e) (omega arith)
first_next ws i l key false e = rw (drop-cons ws i no_edge l, e) (omega arith)

module _ (ws : List EdgeWord) (short : length ws ≤ 2048) where
  -- the links lead to the words from place i on
  pub record Linked (ls : List ℕ) (i : ℕ) : Type 0 where
    pub long : length ls ≡ 3328
    pub behind : (p : ℕ) → p < 3328 → i ≤ get_or ls p 0
    pub inside : (p : ℕ) → p < 3328 → get_or ls p 0 < 2048 → get_or ls p 0 < length ws
    pub finds : (key k : ℕ) → length ws ≤ i + k → place_on k ws ls key (get_or ls (chain_of key) 0) ≡ i + first_place (key_is key) (drop i ws)

  -- no word is linked yet
  pub linked_none : Linked (replicate 3328 65535) (length ws)
  unfolding first_place
  linked_none = record {
    long = length-replicate {A = ℕ} 3328 65535;
    behind = λ p l. rw (get_or-replicate {A = ℕ} 3328 p 65535 0 l) (omega arith);
    inside = λ p l h. let e = get_or-replicate {A = ℕ} 3328 p 65535 0 l in absurd (omega arith);
    finds = λ key k h. let a : length ws ≤ length ws = omega arith in
        let d : drop (length ws) ws ≡ [] = drop_of_length-le ws a in
        let z : length ws ≡ length ws + 0 = omega arith in
        rw (get_or-replicate {A = ℕ} 3328 (chain_of key) 65535 0 (chain_below key), d) (place_out ws (replicate 3328 65535) key k 65535 (omega arith) ∙ z);
  }

  -- the word at place i goes before its chain
  pub linked_more : (ls : List ℕ) (i : ℕ) → Linked ls (suc i) → i < length ws → Linked (link_at ls i (key_in (get_or ws i no_edge))) i
  linked_more ls i h l = record {
    long = link_long ls i (key_in (get_or ws i no_edge)) h.long low;
    behind = every_link ls i (key_in (get_or ws i no_edge)) h.long low (λ p. i ≤ p) (omega arith) (λ p u. let b = h.behind p u in omega arith);
    inside = every_link ls i (key_in (get_or ws i no_edge)) h.long low (λ p. p < 2048 → p < length ws) (λ _. l) h.inside;
    finds = λ key k m.
        placed ws short ls h.long i (get_or ws i no_edge) l refl away key (length ws - suc i) (suc i + first_place (key_is key) (drop (suc i) ws)) (λ j u. h.finds key j (omega arith)) k (omega arith)
        ∙ first_next ws i l key (key_is key (get_or ws i no_edge)) refl;
  }
    where
      low : i < 2048
      low = omega arith

      away : (p : ℕ) → p < 3328 → get_or ls p 0 ≡ i → ⊥
      away p u e = let b = h.behind p u in absurd (omega arith)

  -- the same, where the words are those before it, itself and those behind it
  pub linked_next : (ls : List ℕ) (left linked : List EdgeWord) (w : EdgeWord) → (left ++ (w ∷ [])) ++ linked ≡ ws → Linked ls (length (left ++ (w ∷ []))) → (left ++ (w ∷ linked) ≡ ws) × Linked (link_at ls (length left) (key_in w)) (length left)
  linked_next ls left linked w e h =
      let f : left ++ (w ∷ linked) ≡ ws = sym (append_assoc left (w ∷ []) linked) ∙ e in
      let n : length (left ++ (w ∷ [])) ≡ suc (length left) = omega (arith, length-append left (w ∷ [])) in
      let l : length left < length ws = omega (arith, length-append left (w ∷ linked), ap length f) in
      let q : get_or ws (length left) no_edge ≡ w = ap (λ (xs : List EdgeWord). get_or xs (length left) no_edge) (sym f) ∙ get_or-append_seam left w linked no_edge in
      (f, rw q at (linked_more ls (length left) (subst (Linked ls) n h) l))

  pub linked_all : (ls : List ℕ) → Linked ls 0 → Indexed ws ls
  linked_all ls h = record { long = h.long; inside = h.inside; finds = λ key k m. let e = h.finds key k (omega arith) in omega arith }

-- ---- a word goes in for one with the same key: the search sees the keys alone
module _ (ws : List EdgeWord) (i : ℕ) (w : EdgeWord) (l : i < length ws) (same : key_in w ≡ key_in (get_or ws i no_edge)) where
  key_kept : (key p : ℕ) → key_is key (get_or (set ws i w) p no_edge) ≡ key_is key (get_or ws p no_edge)
  unfolding key_is
  key_kept key p =
      by_cases (eqb p i)
      (λ e. let q = eqb-true p i e in rw (q, get_or-set_same ws i w no_edge l, same))
      (λ e. rw (get_or-set_other ws i p w no_edge (eqb-false p i e)))

  place_kept : (ls : List ℕ) (key k p : ℕ) → place_on k (set ws i w) ls key p ≡ place_on k ws ls key p
  unfolding place_on
  place_kept ls key zero p = length-set ws i w
  place_kept ls key (suc k) p = rw (length-set ws i w, key_kept key p, place_kept ls key k (get_or ls p 0))

first_kept : (key : ℕ) (ws : List EdgeWord) (i : ℕ) (w : EdgeWord) → key_in w ≡ key_in (get_or ws i no_edge) → first_place (key_is key) (set ws i w) ≡ first_place (key_is key) ws
unfolding first_place key_is
first_kept key [] i w e = refl
first_kept key (x ∷ ws) zero w e = rw e
first_kept key (x ∷ ws) (suc i) w e = rw (first_kept key ws i w e)

pub indexed_put : (ws : List EdgeWord) (i : ℕ) (w : EdgeWord) (ls : List ℕ) → i < length ws → key_in w ≡ key_in (get_or ws i no_edge) → Indexed ws ls → Indexed (set ws i w) ls
indexed_put ws i w ls l same h = record {
  long = h.long;
  inside = λ p u v. rw (length-set ws i w) (h.inside p u v);
  finds = λ key k m. let e = length-set ws i w in place_kept ws i w l same ls key k (get_or ls (chain_of key) 0) ∙ h.finds key k (omega arith) ∙ sym (first_kept key ws i w same);
}

-- ---- a word goes behind the last
first_more : (p : EdgeWord → Bool) (ws : List EdgeWord) (w : EdgeWord) → first_place p (ws ++ (w ∷ [])) ≡ (if ltb (first_place p ws) (length ws) then first_place p ws else (if p w then length ws else suc (length ws)))
unfolding first_place
first_more p [] w = refl
first_more p (x ∷ ws) w = go (p x) (first_more p ws w)
  where
    go : (b : Bool) → first_place p (ws ++ (w ∷ [])) ≡ (if ltb (first_place p ws) (length ws) then first_place p ws else (if p w then length ws else suc (length ws)))
        → (if b then 0 else suc (first_place p (ws ++ (w ∷ []))))
        ≡ (if ltb (if b then 0 else suc (first_place p ws)) (suc (length ws)) then (if b then 0 else suc (first_place p ws)) else (if p w then suc (length ws) else suc (suc (length ws))))
    go true ih = rw (ltb_zero (length ws))
    go false ih = rw (ltb_suc (first_place p ws) (length ws)) (ap suc ih ∙ inner (ltb (first_place p ws) (length ws)) (p w))
      where
        inner : (c d : Bool) → suc (if c then first_place p ws else (if d then length ws else suc (length ws))) ≡ (if c then suc (first_place p ws) else (if d then suc (length ws) else suc (suc (length ws))))
        inner true d = refl
        inner false true = refl
        inner false false = refl

module _ (ws : List EdgeWord) (w : EdgeWord) (ls : List ℕ) (room : length ws < 2048) (h : Indexed ws ls) where
  abbrev raised : ℕ → ℕ
  raised x = if ltb x (length ws) then x else suc (length ws)

  length_more : length (ws ++ (w ∷ [])) ≡ suc (length ws)
  length_more = omega (arith, length-append ws (w ∷ []))

  raised_all : suc (length ws) ≡ raised (length ws)
  raised_all = let a : length ws ≤ length ws = omega arith in rw (le-ltb (length ws) (length ws) a)

  -- no link leads there yet, so a search ends as before, but for the number of words
  grown : (key k p : ℕ) → (p < 2048 → p < length ws) → place_on k (ws ++ (w ∷ [])) ls key p ≡ raised (place_on k ws ls key p)
  unfolding place_on
  grown key zero p i = length_more ∙ raised_all
  grown key (suc k) p i = go (grown key k) (ltb p (length ws)) refl
    where
      go : ((p : ℕ) → (p < 2048 → p < length ws) → place_on k (ws ++ (w ∷ [])) ls key p ≡ raised (place_on k ws ls key p)) → (b : Bool) → ltb p (length ws) ≡ b
          → (if ltb p (length (ws ++ (w ∷ []))) then (if key_is key (get_or (ws ++ (w ∷ [])) p no_edge) then p else place_on k (ws ++ (w ∷ [])) ls key (get_or ls p 0)) else length (ws ++ (w ∷ [])))
          ≡ raised (if b then (if key_is key (get_or ws p no_edge) then p else place_on k ws ls key (get_or ls p 0)) else length ws)
      go on true e =
          let b = ltb-true p (length ws) e in
          let l : p < length (ws ++ (w ∷ [])) = omega (arith, length_more) in
          let u : p < 3328 = omega arith in
          rw (lt-ltb p (length (ws ++ (w ∷ []))) l, get_or-append ws (w ∷ []) no_edge p b) (pick (key_is key (get_or ws p no_edge)) (on (get_or ls p 0) (h.inside p u)))
        where
          pick : (c : Bool) → place_on k (ws ++ (w ∷ [])) ls key (get_or ls p 0) ≡ raised (place_on k ws ls key (get_or ls p 0))
              → (if c then p else place_on k (ws ++ (w ∷ [])) ls key (get_or ls p 0)) ≡ raised (if c then p else place_on k ws ls key (get_or ls p 0))
          pick true ih = rw e
          pick false ih = ih
      go on false e =
          let b = ltb-false p (length ws) e in
          let f : p < 2048 → ⊥ = λ u. let v = i u in absurd (omega arith) in
          let l : length (ws ++ (w ∷ [])) ≤ p = omega (arith, length_more) in
          rw (le-ltb p (length (ws ++ (w ∷ []))) l) (length_more ∙ raised_all)

  module _ (fresh : first_place (key_is (key_in w)) ws ≡ length ws) where
    found : (key : ℕ) (b : Bool) → key_is key w ≡ b → (if b then length ws else raised (first_place (key_is key) ws)) ≡ first_place (key_is key) (ws ++ (w ∷ []))
    unfolding key_is
    found key true e =
        let q = eqb-true (key_in w) key e in
        let a : length ws ≤ length ws = omega arith in
        sym (first_more (key_is key) ws w ∙ rw (← q, fresh, le-ltb (length ws) (length ws) a, eq-eqb (key_in w) (key_in w) refl))
    found key false e = sym (first_more (key_is key) ws w ∙ rw e)

    pub indexed_more : Indexed (ws ++ (w ∷ [])) (link_at ls (length ws) (key_in w))
    indexed_more =
        let m = length_more in
        let short : length (ws ++ (w ∷ [])) ≤ 2048 = omega arith in
        let last : length ws < length (ws ++ (w ∷ [])) = omega arith in
        record {
          long = link_long ls (length ws) (key_in w) h.long room;
          inside = every_link ls (length ws) (key_in w) h.long room (λ p. p < 2048 → p < length (ws ++ (w ∷ []))) (λ _. last) (λ p u v. let b = h.inside p u v in omega arith);
          finds = λ key k u.
              placed (ws ++ (w ∷ [])) short ls h.long (length ws) w last (get_or-append_seam ws w [] no_edge) away key (length ws) (raised (first_place (key_is key) ws))
              (λ j v. grown key j (get_or ls (chain_of key) 0) (h.inside (chain_of key) (chain_below key)) ∙ ap raised (h.finds key j v)) k (omega arith)
              ∙ found key (key_is key w) refl;
        }
      where
        away : (p : ℕ) → p < 3328 → get_or ls p 0 ≡ length ws → ⊥
        away p u e = let v : get_or ls p 0 < 2048 = omega arith in let b = h.inside p u v in absurd (omega arith)

-- ---- what an index leads to

-- an edge for the event has the event's key
pub edge_has : (n : ℕ) (ev : Event) (w : EdgeWord) → is_edge n ev (edge_of w) ≡ true → n + event_code ev * 65536 ≡ key_in w
unfolding is_edge edge_of
edge_has n ev w h =
    let a = eqb-true (key_in w % 65536) n (and_l _ _ h) in
    let e = event_is (event_at (key_in w / 65536)) ev (and_r (eqb (key_in w % 65536) n) _ h) in
    let c : event_code ev ≡ key_in w / 65536 = ap event_code (sym e) ∙ code_event (key_in w / 65536) in
    omega arith

-- words with one key are edges for the same events
same_edge : (n : ℕ) (ev : Event) (x w : EdgeWord) → key_in x ≡ key_in w → is_edge n ev (edge_of x) ≡ is_edge n ev (edge_of w)
unfolding is_edge edge_of
same_edge n ev x w e = rw e

-- no word is such an edge
end_never : (n : ℕ) (ev : Event) (ws : List EdgeWord) → ((w : EdgeWord) → is_edge n ev (edge_of w) ≡ false) → end_in (map edge_of ws) n ev ≡ none
unfolding end_in
end_never n ev [] h = refl
end_never n ev (w ∷ ws) h = rw (h w) (end_never n ev ws h)

-- nor is any if a word with the event's key is not: n is such as no word has
no_other : (n : ℕ) (ev : Event) (x : EdgeWord) (ws : List EdgeWord) → is_edge n ev (edge_of x) ≡ false → key_in x ≡ n + event_code ev * 65536 → end_in (map edge_of ws) n ev ≡ none
no_other n ev x ws f q =
    end_never n ev ws (λ w. by_cases (is_edge n ev (edge_of w))
    (λ t. sym (same_edge n ev x w (q ∙ edge_has n ev w t)) ∙ f)
    (λ t. t))

-- at the first word with the event's key stands the first edge for the event
end_first : (n : ℕ) (ev : Event) (ws : List EdgeWord) → end_at ws n ev (first_place (key_is (n + event_code ev * 65536)) ws) ≡ end_in (map edge_of ws) n ev
unfolding end_at end_in first_place key_is
end_first n ev [] = refl
end_first n ev (x ∷ ws) =
    by_cases (eqb (key_in x) (n + event_code ev * 65536))
    (λ e. rw (e, ltb_zero (length ws)) (first (is_edge n ev (edge_of x)) refl (eqb-true _ _ e)))
    (λ e. rw e (later (is_edge n ev (edge_of x)) refl (eqb-false _ _ e) (end_first n ev ws)))
  where
    first : (b : Bool) → is_edge n ev (edge_of x) ≡ b → key_in x ≡ n + event_code ev * 65536
        → (if b then some (edge_of x).to else none) ≡ (if b then some (edge_of x).to else end_in (map edge_of ws) n ev)
    first true f q = refl
    first false f q = sym (no_other n ev x ws f q)

    later : (b : Bool) → is_edge n ev (edge_of x) ≡ b → (key_in x ≡ n + event_code ev * 65536 → ⊥) → end_at ws n ev (first_place (key_is (n + event_code ev * 65536)) ws) ≡ end_in (map edge_of ws) n ev
        → end_at (x ∷ ws) n ev (suc (first_place (key_is (n + event_code ev * 65536)) ws)) ≡ (if b then some (edge_of x).to else end_in (map edge_of ws) n ev)
    later true f d ih = absurd (d (sym (edge_has n ev x f)))
    later false f d ih = rw (ltb_suc (first_place (key_is (n + event_code ev * 65536)) ws) (length ws)) ih

-- of the words that the links lead to, the first that is an edge for the event is the one that a search for its key comes to
pub end_on : (n : ℕ) (ev : Event) (ws : List EdgeWord) (ls : List ℕ) (k i : ℕ) → end_in (map edge_of (words_on k ws ls i)) n ev ≡ end_at ws n ev (place_on k ws ls (n + event_code ev * 65536) i)
unfolding words_on place_on end_at end_in key_is
end_on n ev ws ls zero i = let a : length ws ≤ length ws = omega arith in rw (le-ltb (length ws) (length ws) a)
end_on n ev ws ls (suc k) i = go (ltb i (length ws)) refl (end_on n ev ws ls k (get_or ls i 0))
  where
    x : EdgeWord
    x = get_or ws i no_edge

    go : (b : Bool) → ltb i (length ws) ≡ b → end_in (map edge_of (words_on k ws ls (get_or ls i 0))) n ev ≡ end_at ws n ev (place_on k ws ls (n + event_code ev * 65536) (get_or ls i 0))
        → end_in (map edge_of (if b then x ∷ words_on k ws ls (get_or ls i 0) else [])) n ev
        ≡ end_at ws n ev (if b then (if key_is (n + event_code ev * 65536) x then i else place_on k ws ls (n + event_code ev * 65536) (get_or ls i 0)) else length ws)
    go false e ih = let a : length ws ≤ length ws = omega arith in rw (le-ltb (length ws) (length ws) a)
    go true e ih =
        by_cases (key_is (n + event_code ev * 65536) x)
        (λ t. rw (t, e) (own (is_edge n ev (edge_of x)) refl (eqb-true (key_in x) (n + event_code ev * 65536) t)))
        (λ t. rw t (other (is_edge n ev (edge_of x)) refl (eqb-false (key_in x) (n + event_code ev * 65536) t) ∙ ih))
      where
        own : (b : Bool) → is_edge n ev (edge_of x) ≡ b → key_in x ≡ n + event_code ev * 65536
            → (if b then some (edge_of x).to else end_in (map edge_of (words_on k ws ls (get_or ls i 0))) n ev) ≡ (if b then some (edge_of x).to else none)
        own true f q = refl
        own false f q = no_other n ev x (words_on k ws ls (get_or ls i 0)) f q

        other : (b : Bool) → is_edge n ev (edge_of x) ≡ b → (key_in x ≡ n + event_code ev * 65536 → ⊥)
            → (if b then some (edge_of x).to else end_in (map edge_of (words_on k ws ls (get_or ls i 0))) n ev) ≡ end_in (map edge_of (words_on k ws ls (get_or ls i 0))) n ev
        other true f d = absurd (d (sym (edge_has n ev x f)))
        other false f d = refl

module _ (ws : List EdgeWord) (ls : List ℕ) (short : length ws ≤ 2048) (h : Indexed ws ls) where
  pub indexed_place : (key : ℕ) → linked_place ws ls key ≡ first_place (key_is key) ws
  unfolding linked_place
  indexed_place key = h.finds key 2048 short

  pub indexed_end : (n : ℕ) (ev : Event) → linked_end ws ls n ev ≡ end_in (map edge_of ws) n ev
  unfolding linked_end
  indexed_end n ev = ap (end_at ws n ev) (indexed_place (n + event_code ev * 65536)) ∙ end_first n ev ws

-- the same of a graph
module _ (x : Graph) (ls : List ℕ) (h : Indexed (edge_words x) ls) where
  pub index_place : (key : ℕ) → linked_place (edge_words x) ls key ≡ first_place (key_is key) (edge_words x)
  index_place key = indexed_place (edge_words x) ls (edges_short x) h key

  pub index_end : (n : ℕ) (ev : Event) → linked_end (edge_words x) ls n ev ≡ get_edge (graph_of x) n ev
  unfolding get_edge graph_of
  index_end n ev = indexed_end (edge_words x) ls (edges_short x) h n ev

  -- following by the links is following in the graph
  pub index_follow : (cs : List ClassEntry) (n k : ℕ) → follow_links cs (edge_words x) ls n k ≡ follow_edge cs (graph_of x) n k
  unfolding follow_links follow_edge follow_first
  index_follow cs n k = go (events_of cs k)
    where
      go : (evs : List Event) → follow_first (linked_end (edge_words x) ls n) evs ≡ follow_first (get_edge (graph_of x) n) evs
      go [] = ap lastly (index_end n _)
      go (ev ∷ evs) = rw (index_end n ev) (ap (or_else_by ev (get_edge (graph_of x) n ev)) (go evs))

-- ---- one step of a search along a chain, after c others, at place i: x is the place that all of them lead to
module _ (ws : List EdgeWord) (ls : List ℕ) (key x c i : ℕ) (all : x ≡ place_on (2048 - c) ws ls key i) where
  pub chain_end : 2048 ≤ c → length ws ≡ x
  unfolding place_on
  chain_end h = let z : 2048 - c ≡ 0 = omega arith in sym (all ∙ rw z)

  pub chain_out : length ws ≤ i → length ws ≡ x
  chain_out h = sym (all ∙ place_out ws ls key (2048 - c) i h)

  module _ (more : c < 2048) (h : i < length ws) where
    step_is : x ≡ (if key_is key (get_or ws i no_edge) then i else place_on (2048 - (c + 1)) ws ls key (get_or ls i 0))
    unfolding place_on
    step_is = let n : 2048 - c ≡ suc (2048 - (c + 1)) = omega arith in all ∙ rw (n, lt-ltb i (length ws) h)

    pub chain_hit : key_in (get_or ws i no_edge) ≡ key → i ≡ x
    unfolding key_is
    chain_hit t = sym (step_is ∙ rw (eq-eqb (key_in (get_or ws i no_edge)) key t))

    pub chain_miss : (key_in (get_or ws i no_edge) ≡ key → ⊥) → x ≡ place_on (2048 - (c + 1)) ws ls key (get_or ls i 0)
    unfolding key_is
    chain_miss t = step_is ∙ rw (ne_eqb (key_in (get_or ws i no_edge)) key t)

-- ---- the end of the edge at the place that a search gave
place_has : (ws : List EdgeWord) (ls : List ℕ) (key k i : ℕ) → place_on k ws ls key i < length ws → key_is key (get_or ws (place_on k ws ls key i) no_edge) ≡ true
unfolding place_on
place_has ws ls key zero i h = absurd (omega arith)
place_has ws ls key (suc k) i h = go (ltb i (length ws)) (key_is key (get_or ws i no_edge)) refl (place_has ws ls key k (get_or ls i 0)) h
  where
    go : (b c : Bool) → key_is key (get_or ws i no_edge) ≡ c → (place_on k ws ls key (get_or ls i 0) < length ws → key_is key (get_or ws (place_on k ws ls key (get_or ls i 0)) no_edge) ≡ true)
        → (if b then (if c then i else place_on k ws ls key (get_or ls i 0)) else length ws) < length ws
        → key_is key (get_or ws (if b then (if c then i else place_on k ws ls key (get_or ls i 0)) else length ws) no_edge) ≡ true
    go false c e ih h = absurd (omega arith)
    go true true e ih h = e
    go true false e ih h = ih h

pub linked_found : (ws : List EdgeWord) (ls : List ℕ) (n : ℕ) (ev : Event) (i : ℕ) → n < 65536 → event_at (event_code ev) ≡ ev → i ≡ linked_place ws ls (n + event_code ev * 65536) → end_of ws i ≡ linked_end ws ls n ev
unfolding end_of linked_end linked_place end_at edge_of
linked_found ws ls n ev i hn coded hi =
    by_cases (ltb i (length ws))
    (λ e. let t = place_has ws ls (n + event_code ev * 65536) 2048 (get_or ls (chain_of (n + event_code ev * 65536)) 0) (subst (λ (j : ℕ). j < length ws) hi (ltb-true i (length ws) e)) in
    let k : key_is (n + event_code ev * 65536) (get_or ws i no_edge) ≡ true = rw (← hi) at t in
    rw (← hi, e) (rw (edge_key n ev hn coded (get_or ws i no_edge), k)))
    (λ e. rw (← hi, e))

pub linked_coded : (ws : List EdgeWord) (ls : List ℕ) (n code i : ℕ) → n < 65536 → i ≡ linked_place ws ls (n + code * 65536) → end_of ws i ≡ linked_end ws ls n (event_at code)
linked_coded ws ls n code i hn hi = linked_found ws ls n (event_at code) i hn (ap event_at (code_event code)) (rw (code_event code) hi)

-- ---- an index of x's edges, when the word w goes in at its place and makes them y's
module _ (x y : Graph) (w : EdgeWord) (key i n : ℕ) (ls : List ℕ) (hk : key_in w ≡ key) (hi : i ≡ first_place (key_is key) (edge_words x))
    (hn : n ≡ length (edge_words x)) (put : edge_words y ≡ word_put (edge_words x) w) (h : Indexed (edge_words x) ls) where
  place : first_place (key_is (key_in w)) (edge_words x) ≡ i
  place = rw hk (sym hi)

  pub stays_index : i < n → Indexed (edge_words y) ls
  unfolding key_is
  stays_index l =
      let q : first_place (key_is (key_in w)) (edge_words x) < length (edge_words x) = omega (arith, place) in
      let same : key_in (get_or (edge_words x) (first_place (key_is (key_in w)) (edge_words x)) no_edge) ≡ key_in w = eqb-true _ _ (first_has (key_is (key_in w)) no_edge (edge_words x) q) in
      rw (put, ← word_over (edge_words x) w q) (indexed_put (edge_words x) (first_place (key_is (key_in w)) (edge_words x)) w ls q (sym same) h)

  pub linked_index : (new : List ℕ) → new ≡ link_at ls i key → n ≤ i → Indexed (edge_words y) new
  unfolding link_at
  linked_index new made g =
      let m = first_most (key_is (key_in w)) (edge_words x) in
      let s = edges_short x in
      let e : i ≡ length (edge_words x) = omega (arith, place) in
      let b : length (edge_words x) ≤ first_place (key_is (key_in w)) (edge_words x) = omega (arith, place) in
      by_cases (ltb (length (edge_words x)) 2048)
      (λ f. let r = ltb-true (length (edge_words x)) 2048 f in rw (made, put, ← word_behind (edge_words x) w b r, e, ← hk) (indexed_more (edge_words x) w ls r h (place ∙ e)))
      (λ f. let r = ltb-false (length (edge_words x)) 2048 f in let q : 2048 ≤ i = omega arith in rw (made, put, ← word_nowhere (edge_words x) w b r, le-ltb i 2048 q) h)
