-- A search by blocks ends where the first word that passes is, since no word of a block that is passed has the key. Words with one key
-- are edges of one start and event, so the rules' first edge stands at that place, and a word that goes in there is the rules' edge put.
-- A node is what its words stand for.
use Rattle.std.specs.Prelude
use Rattle.std.specs.Prelude.{if◌then◌else◌, cond, Some, None}
use Rattle.std.specs.Option.{unwrap_or, MatchOption, IsSomeAnd}
use Rattle.std.specs.Simd.{first_chunks}
use Rattle.std.specs.List.{position, position_or_len, position_from, list_any}
use Rattle.std.proofs.lemmas.List.{get_or-map}
use Rattle.std.proofs.lemmas.List.Recursion.{is_position_or_len}
use Rattle.std.proofs.lemmas.List.Folds.{list_any_more}
use Rattle.std.proofs.lemmas.List.Sums.{prefix_len-le-length, passes_at_first}
use Rattle.std.proofs.lemmas.Iterator.Adapters.{position_from-zero}
use Prim.Native.Nat.{ℕ, zero, suc, ◌+◌, ◌-◌, ◌*◌, ◌<◌, ◌≤◌}
use mathlib.Core.Path.{◌≡◌, refl, sym, ap, subst, ◌∙◌}
use mathlib.Core.Bool.{Bool, true, false, not, ◌||◌}
use mathlib.Core.List.{List, [], ◌∷◌, ◌++◌, map, map-append}
use mathlib.Core.Option.{none, some}
use native.Mathlib.Omega.{arith}
use native.Mathlib.Numerals.{add-one}
use lib.Dec.{ltb, eqb}
use lib.ListN.{length, take, drop, length-drop, set, get_or, length-map, drop_of_length-le}
use Rattle.keyvalues.specs.declared.node.NodeWords.{NodeWords}
use lib.Seq.{take_all, drop-cons}
use borrow.Author.Tests.{lt-ltb, le-ltb, ltb-true, ltb-false}
use Rattle.rules.specs.Basics.{accept, refuse, some_of, unless}
use Rattle.rules.proofs.Tests.{by_cases}
use Rattle.rules.specs.Values.{Event}
use Rattle.rules.specs.Graph.{is_edge, Edge, end_in, replace_in, put_edge, add_edge, get_edge, Node, no_node}
use Rattle.rules.specs.Calls.{first_node, holds_action, find}
use Rattle.keyvalues.specs.View.{maybe_of, event_at, event_code, graph_by, node_in, node_at, action_at}
use Rattle.keyparts.specs.declared.edge.EdgeWord.{EdgeWord}
use Rattle.keyparts.specs.View.{key_in, no_edge, edge_of, key_is, first_place, word_put, end_of, edge_words, graph_of, empty_words}
use Rattle.keyparts.specs.declared.graph.Graph.{Graph}
use Rattle.keyvalues.proofs.Words.{code_event}
use Rattle.keyparts.proofs.Edges.{edge_key, edge_word}

-- ---- what std's searches say

pub first_is : {A : Type 0} (p : A → Bool) (xs : List A) → first_place p xs ≡ position_or_len p xs
unfolding first_place
first_is p xs = is_position_or_len (first_place p) p refl (λ y ys. go (p y) (first_place p ys)) xs
  where
    go : (b : Bool) (n : ℕ) → (if b then 0 else suc n) ≡ cond b 0 (1 + n)
    go true n = refl
    go false n = omega arith

pub first_most : {A : Type 0} (p : A → Bool) (xs : List A) → first_place p xs ≤ length xs
first_most p xs = rw (first_is p xs) (prefix_len-le-length (λ x. not (p x)) xs)

pub place_or : {A : Type 0} (p : A → Bool) (xs : List A) → unwrap_or (position p xs) (length xs) ≡ first_place p xs
place_or p xs = go (ltb (position_or_len p xs) (length xs)) refl ∙ sym (first_is p xs)
  where
    go : (b : Bool) → ltb (position_or_len p xs) (length xs) ≡ b → unwrap_or (cond b (Some (position_or_len p xs)) None) (length xs) ≡ position_or_len p xs
    go true f = refl
    go false f = let l = ltb-false (position_or_len p xs) (length xs) f in omega (arith, first_most p xs, first_is p xs)

-- a search may begin at any place up to the first
first_from : {A : Type 0} (p : A → Bool) (n : ℕ) (xs : List A) → n ≤ first_place p xs → n + first_place p (drop n xs) ≡ first_place p xs
unfolding first_place
first_from p zero xs h = omega arith
first_from p (suc n) [] h = absurd (omega arith)
first_from p (suc n) (x ∷ xs) h = go (p x) (first_from p n xs) h
  where
    go : (b : Bool) → (n ≤ first_place p xs → n + first_place p (drop n xs) ≡ first_place p xs) → suc n ≤ (if b then 0 else suc (first_place p xs)) → suc n + first_place p (drop n xs) ≡ (if b then 0 else suc (first_place p xs))
    go true ih h = absurd (omega arith)
    go false ih h = let e = ih (omega arith) in omega arith

-- whether one of the words has the key, by those before place i
module _ (key : ℕ) (ws : List EdgeWord) (i : ℕ) (met : Bool) (h : met ≡ list_any (key_is key) (take i ws)) where
  pub any_more : i < length ws → (met || eqb (key_in (get_or ws i no_edge)) key) ≡ list_any (key_is key) (take (i + 1) ws)
  unfolding key_is
  any_more l = ap (λ (b : Bool). b || eqb (key_in (get_or ws i no_edge)) key) h ∙ sym (list_any_more (key_is key) ws i no_edge l)

  pub any_all : length ws ≤ i → met ≡ list_any (key_is key) ws
  any_all l = rw (take_all i ws l) at h

-- where none of the first k passes, the first that does stands behind them
first_behind : {A : Type 0} (p : A → Bool) (k : ℕ) (xs : List A) → k ≤ length xs → list_any p (take k xs) ≡ false → k + first_place p (drop k xs) ≤ first_place p xs
unfolding first_place
first_behind p zero xs h e = omega arith
first_behind p (suc k) [] h e = absurd (omega arith)
first_behind p (suc k) (x ∷ xs) h e = go (p x) e (first_behind p k xs (omega arith))
  where
    go : (b : Bool) → (b || list_any p (take k xs)) ≡ false → (list_any p (take k xs) ≡ false → k + first_place p (drop k xs) ≤ first_place p xs) → suc k + first_place p (drop k xs) ≤ (if b then 0 else suc (first_place p xs))
    go true e ih = absurd cc
    go false e ih = let f = ih e in omega arith

-- the words of the first blocks of which none has one that passes
pub blocks_before : {A : Type 0} (p : A → Bool) (k m : ℕ) (xs : List A) → m * k ≤ length xs → first_place (list_any p) (first_chunks k m xs) * k ≤ first_place p xs
unfolding first_place
blocks_before p k zero xs h = omega arith
blocks_before p k (suc m) xs h = go (list_any p (take k xs)) refl (blocks_before p k m (drop k xs))
  where
    go : (b : Bool) → list_any p (take k xs) ≡ b → (m * k ≤ length (drop k xs) → first_place (list_any p) (first_chunks k m (drop k xs)) * k ≤ first_place p (drop k xs))
        → (if b then 0 else suc (first_place (list_any p) (first_chunks k m (drop k xs)))) * k ≤ first_place p xs
    go true e ih = omega arith
    go false e ih =
        let s : suc m * k ≡ k + m * k = omega arith in
        let l : k ≤ length xs = omega arith in
        let r : m * k ≤ length (drop k xs) = omega (arith, length-drop k xs) in
        let i = ih r in
        let f = first_behind p k xs l e in
        let t : suc (first_place (list_any p) (first_chunks k m (drop k xs))) * k ≡ k + first_place (list_any p) (first_chunks k m (drop k xs)) * k = omega arith in
        omega arith

-- the same of the rest as it is cut
pub first_in_rest : {A : Type 0} (p : A → Bool) (n : ℕ) (xs : List A) → n ≤ first_place p xs → n + first_place p (take (length xs - n) (drop n xs)) ≡ first_place p xs
first_in_rest p n xs h =
    let l : length (drop n xs) ≤ length xs - n = omega (arith, length-drop n xs) in
    rw (take_all (length xs - n) (drop n xs) l) (first_from p n xs h)

-- a node is read from its words
pub node_read : (ws : List NodeWords) (i : ℕ) → i < length ws → get_or (map node_in ws) i no_node ≡ node_in (get_or ws i empty_words)
node_read ws i h = get_or-map node_in ws i empty_words no_node h

-- ---- the search for a node: what is left of it from node i on gives what all of it gives
abbrev pub LeftFrom : List Node → ℕ → ℕ → ℕ → Type 0
LeftFrom ns mode a i = first_node (holds_action mode a) 0 ns ≡ first_node (holds_action mode a) i (drop i ns)

module _ (ns : List Node) (mode a i : ℕ) (left : LeftFrom ns mode a i) where
  pub node_next : i < length ns → holds_action mode a (get_or ns i no_node) ≡ false → LeftFrom ns mode a (i + 1)
  unfolding first_node
  node_next l t = left ∙ rw (drop-cons ns i no_node l, t, add-one)

  module _ (es : List Edge) (known : mode < 16) where
    pub node_here : i < length ns → holds_action mode a (get_or ns i no_node) ≡ true → accept (some i) ≡ find (graph_by ns es) mode a
    unfolding find first_node
    node_here l t = rw (lt-ltb mode 16 known, left, drop-cons ns i no_node l, t)

    pub node_none : length ns ≤ i → accept none ≡ find (graph_by ns es) mode a
    unfolding find first_node
    node_none l = rw (lt-ltb mode 16 known, left, drop_of_length-le ns l)

pub any_told : {A B : Type 0} (f : A → B) (p : B → Bool) (xs : List A) → list_any (λ x. p (f x)) xs ≡ some_of p (map f xs)
unfolding some_of
any_told f p [] = refl
any_told f p (x ∷ xs) = ap (λ (b : Bool). p (f x) || b) (any_told f p xs)

-- ---- where an edge's word goes
module _ (ws : List EdgeWord) (w : EdgeWord) where
  pub word_over : first_place (key_is (key_in w)) ws < length ws → set ws (first_place (key_is (key_in w)) ws) w ≡ word_put ws w
  unfolding word_put
  word_over h = rw (lt-ltb (first_place (key_is (key_in w)) ws) (length ws) h)

  pub word_behind : length ws ≤ first_place (key_is (key_in w)) ws → length ws < 2048 → ws ++ (w ∷ []) ≡ word_put ws w
  unfolding word_put
  word_behind h r = rw (le-ltb (first_place (key_is (key_in w)) ws) (length ws) h, lt-ltb (length ws) 2048 r)

  pub word_nowhere : length ws ≤ first_place (key_is (key_in w)) ws → 2048 ≤ length ws → ws ≡ word_put ws w
  unfolding word_put
  word_nowhere h r = rw (le-ltb (first_place (key_is (key_in w)) ws) (length ws) h, le-ltb (length ws) 2048 r)

pub first_has : {A : Type 0} (p : A → Bool) (d : A) (xs : List A) → first_place p xs < length xs → p (get_or xs (first_place p xs) d) ≡ true
first_has p d xs h = rw (first_is p xs) (passes_at_first p xs d (rw (first_is p xs) at h))

-- ---- what the search's answer says of the edges
module _ (n : ℕ) (ev : Event) (p : EdgeWord → Bool) (same : (w : EdgeWord) → is_edge n ev (edge_of w) ≡ p w) where
  pub end_found : (xs : List EdgeWord) → first_place p xs < length xs → end_in (map edge_of xs) n ev ≡ some (edge_of (get_or xs (first_place p xs) no_edge)).to
  unfolding first_place end_in
  end_found [] h = absurd (omega arith)
  end_found (x ∷ xs) h = rw (same x) (go (p x) (end_found xs) h)
    where
      go : (b : Bool) → (first_place p xs < length xs → end_in (map edge_of xs) n ev ≡ some (edge_of (get_or xs (first_place p xs) no_edge)).to)
          → (if b then 0 else suc (first_place p xs)) < suc (length xs)
          → (if b then some (edge_of x).to else end_in (map edge_of xs) n ev) ≡ some (edge_of (get_or (x ∷ xs) (if b then 0 else suc (first_place p xs)) no_edge)).to
      go true ih h = refl
      go false ih h = ih (omega arith)

  pub end_none : (xs : List EdgeWord) → length xs ≤ first_place p xs → end_in (map edge_of xs) n ev ≡ none
  unfolding first_place end_in
  end_none [] h = refl
  end_none (x ∷ xs) h = rw (same x) (go (p x) (end_none xs) h)
    where
      go : (b : Bool) → (length xs ≤ first_place p xs → end_in (map edge_of xs) n ev ≡ none)
          → suc (length xs) ≤ (if b then 0 else suc (first_place p xs))
          → (if b then some (edge_of x).to else end_in (map edge_of xs) n ev) ≡ none
      go true ih h = absurd (omega arith)
      go false ih h = ih (omega arith)

  pub replace_found : (to : ℕ) (w : EdgeWord) → edge_of w ≡ record { from = n; event = ev; to = to } → (xs : List EdgeWord) → first_place p xs < length xs
      → replace_in (map edge_of xs) (record { from = n; event = ev; to = to }) ≡ map edge_of (set xs (first_place p xs) w)
  unfolding first_place replace_in
  replace_found to w ew [] h = absurd (omega arith)
  replace_found to w ew (x ∷ xs) h = rw (same x) (go (p x) (replace_found to w ew xs) h)
    where
      go : (b : Bool) → (first_place p xs < length xs → replace_in (map edge_of xs) (record { from = n; event = ev; to = to }) ≡ map edge_of (set xs (first_place p xs) w))
          → (if b then 0 else suc (first_place p xs)) < suc (length xs)
          → (if b then record { from = n; event = ev; to = to } ∷ map edge_of xs else edge_of x ∷ replace_in (map edge_of xs) (record { from = n; event = ev; to = to })) ≡ map edge_of (set (x ∷ xs) (if b then 0 else suc (first_place p xs)) w)
      go true ih h = ap (λ (e : Edge). e ∷ map edge_of xs) (sym ew)
      go false ih h = ap (λ (l : List Edge). edge_of x ∷ l) (ih (omega arith))

-- ---- an edge's word goes in, at the place that a search for its key gave
module _ (ns : List Node) (ws : List EdgeWord) (from : ℕ) (ev : Event) (to : ℕ) (w : EdgeWord) (hf : from < 65536) (ht : to < 65536) (coded : event_at (event_code ev) ≡ ev)
    (hw : w.word ≡ to + 65536 * (from + event_code ev * 65536)) where
  abbrev at : ℕ
  at = first_place (key_is (from + event_code ev * 65536)) ws

  key_of_word : key_in w ≡ from + event_code ev * 65536
  key_of_word = omega arith

  word_is : edge_of w ≡ record { from = from; event = ev; to = to }
  word_is = edge_word from ev hf coded to w ht hw

  replaced : at < length ws → accept (graph_by ns (map edge_of (set ws at w))) ≡ add_edge from to ev (graph_by ns (map edge_of ws))
  unfolding add_edge get_edge put_edge
  replaced h =
      let e = end_found from ev (key_is (from + event_code ev * 65536)) (edge_key from ev hf coded) ws h in
      let q = replace_found from ev (key_is (from + event_code ev * 65536)) (edge_key from ev hf coded) to w word_is ws h in
      rw (e, q)

  appended : length ws ≤ at → length ws < 2048 → accept (graph_by ns (map edge_of (ws ++ (w ∷ [])))) ≡ add_edge from to ev (graph_by ns (map edge_of ws))
  unfolding add_edge get_edge put_edge
  appended h r =
      let u : length (map edge_of ws) < 2048 = omega (arith, length-map ws edge_of) in
      let e = end_none from ev (key_is (from + event_code ev * 65536)) (edge_key from ev hf coded) ws h in
      rw (e, lt-ltb (length (map edge_of ws)) 2048 u, map-append edge_of ws (w ∷ []), word_is)

  full : length ws ≤ at → 2048 ≤ length ws → refuse 3 ≡ add_edge from to ev (graph_by ns (map edge_of ws))
  unfolding add_edge get_edge put_edge
  full h r =
      let u : 2048 ≤ length (map edge_of ws) = omega (arith, length-map ws edge_of) in
      let e = end_none from ev (key_is (from + event_code ev * 65536)) (edge_key from ev hf coded) ws h in
      rw (e, le-ltb (length (map edge_of ws)) 2048 u)

  -- i is the place
  pub edge_added : (i : ℕ) → i ≡ at → length ws ≤ 2048 → unless (ltb i 2048) 3 (accept (graph_by ns (map edge_of (word_put ws w)))) ≡ add_edge from to ev (graph_by ns (map edge_of ws))
  edge_added i hi short =
      by_cases (ltb at (length ws))
      (λ e. let l = ltb-true at (length ws) e in
      let s : i < 2048 = omega arith in
      rw (lt-ltb i 2048 s, ← word_over ws w (rw key_of_word l), key_of_word) (replaced l))
      (λ e. let g = ltb-false at (length ws) e in
      let m = first_most (key_is (from + event_code ev * 65536)) ws in
      by_cases (ltb (length ws) 2048)
      (λ f. let r = ltb-true (length ws) 2048 f in
      let s : i < 2048 = omega arith in
      rw (lt-ltb i 2048 s, ← word_behind ws w (rw key_of_word g) r) (appended g r))
      (λ f. let r = ltb-false (length ws) 2048 f in
      let s : 2048 ≤ i = omega arith in
      rw (le-ltb i 2048 s) (full g r)))

-- ---- the end of the edge that a search found
pub edge_found : (ws : List EdgeWord) (n : ℕ) (ev : Event) (i : ℕ) → n < 65536 → event_at (event_code ev) ≡ ev → i ≡ first_place (key_is (n + event_code ev * 65536)) ws → end_of ws i ≡ end_in (map edge_of ws) n ev
unfolding end_of edge_of
edge_found ws n ev i hn coded hi =
    by_cases (ltb i (length ws))
    (λ e. let l = subst (λ (j : ℕ). j < length ws) hi (ltb-true i (length ws) e) in
    rw e (sym (end_found n ev (key_is (n + event_code ev * 65536)) (edge_key n ev hn coded) ws l ∙ rw (← hi))))
    (λ e. let l = subst (λ (j : ℕ). length ws ≤ j) hi (ltb-false i (length ws) e) in
    rw e (sym (end_none n ev (key_is (n + event_code ev * 65536)) (edge_key n ev hn coded) ws l)))

-- the same by any number as an event's code
pub edge_coded : (x : Graph) (n code i : ℕ) → n < 65536 → i ≡ first_place (key_is (n + code * 65536)) (edge_words x) → end_of (edge_words x) i ≡ get_edge (graph_of x) n (event_at code)
unfolding get_edge graph_of
edge_coded x n code i hn hi = edge_found (edge_words x) n (event_at code) i hn (ap event_at (code_event code)) (rw (code_event code) hi)

-- ---- the node at a number, by its words
pub node_words : (ps : List NodeWords) (i : ℕ) → node_in (get_or ps i empty_words) ≡ get_or (map node_in ps) i no_node
unfolding no_node node_at action_at
node_words [] i = refl
node_words (p ∷ ps) zero = refl
node_words (p ∷ ps) (suc i) = node_words ps i
