-- n + 1 times are one time and n more, and a path is a part and the path after it, or all parts before its last and the last. So
-- the steps of a loop, one behind another, are the rules' recursion.
use Prim.Native.Nat.{ℕ, zero, suc, ◌+◌, ◌<◌, ◌≤◌}
use mathlib.Core.Path.{◌≡◌, refl, sym, ◌∙◌}
use mathlib.Core.List.{List, [], ◌∷◌, ◌++◌, map, map-append}
use mathlib.Core.Option.{Option}
use mathlib.Core.Bool.{Bool, true, false}
use lib.Dec.{eqb}
use borrow.Author.Tests.{ne_eqb}
use native.Mathlib.Omega.{arith}
use native.Mathlib.Numerals.{add-one}
use lib.ListN.{length, drop, get_or, drop_of_length-le}
use lib.Seq.{drop-cons}
use Rattle.rules.specs.Basics.{Result, accept, refuse, ◌>>=◌}
use Rattle.rules.specs.Values.{Event, Part, Step}
use Rattle.rules.specs.Graph.{Cursor, Empty, add_simple_step, add_simples, add_optionals, map_fall, add_intermediate, map_path, prefix_path}
use Rattle.keygraph.specs.Making.{add_times, add_parts}

module _ (mode : ℕ) (ev : Event) where
  pub times_more : (end : Option ℕ) (c c₁ c₂ : Cursor) (i k : ℕ) → i ≡ suc k → accept c₁ ≡ add_simple_step mode ev Empty c → accept c₂ ≡ map_fall end c₁ → add_times k mode ev end c₂ ≡ add_times i mode ev end c
  unfolding add_times add_simples add_optionals map_fall
  times_more end c c₁ c₂ i k e h j = grind arith

  pub times_refused : (end : Option ℕ) (c : Cursor) (i n : ℕ) → 0 < i → refuse n ≡ add_simple_step mode ev Empty c → refuse n ≡ add_times i mode ev end c
  unfolding add_times add_simples add_optionals
  times_refused end c zero n e h = absurd (omega arith)
  times_refused end c (suc k) n e h = grind arith

  pub times_unended : (end : Option ℕ) (c c₁ : Cursor) (i n : ℕ) → 0 < i → accept c₁ ≡ add_simple_step mode ev Empty c → refuse n ≡ map_fall end c₁ → refuse n ≡ add_times i mode ev end c
  unfolding add_times add_simples add_optionals map_fall
  times_unended end c c₁ zero n e h j = absurd (omega arith)
  times_unended end c c₁ (suc k) n e h j = grind arith

  pub times_none : (end : Option ℕ) (c : Cursor) (i : ℕ) → i ≡ 0 → accept c ≡ add_times i mode ev end c
  unfolding add_times add_simples add_optionals
  times_none end c i e = grind arith

-- f shows what a part is; the part at a place that the list has
module _ {A : Type 0} (f : A → Part) (mode : ℕ) (ps : List A) (d : A) (i : ℕ) (low : i < length ps) (c : Cursor) where
  parts_here : add_parts mode (map f (drop i ps)) c ≡ (add_intermediate mode (f (get_or ps i d)) c >>= add_parts mode (map f (drop (i + 1) ps)))
  unfolding add_parts
  parts_here = rw (drop-cons ps i d low, add-one)

  pub parts_more : (c₁ : Cursor) → accept c₁ ≡ add_intermediate mode (f (get_or ps i d)) c → add_parts mode (map f (drop (i + 1) ps)) c₁ ≡ add_parts mode (map f (drop i ps)) c
  parts_more c₁ h = rw (parts_here, ← h)

  pub parts_refused : (n : ℕ) → refuse n ≡ add_intermediate mode (f (get_or ps i d)) c → refuse n ≡ add_parts mode (map f (drop i ps)) c
  parts_refused n h = rw (parts_here, ← h)

pub parts_none : {A : Type 0} (f : A → Part) (mode : ℕ) (ps : List A) (i : ℕ) (c : Cursor) → length ps ≤ i → accept c ≡ add_parts mode (map f (drop i ps)) c
unfolding add_parts
parts_none f mode ps i c h = rw (drop_of_length-le ps h)

-- The path of a mapping or of a prefix: a part before others goes on, and what comes after it is not the whole path. So it is the
-- parts before its last, and the last, which is the whole path where none is before it.
module _ (mode : ℕ) (path : Bool → List Part → Cursor → Result Cursor)
    (goes : (b : Bool) (p q : Part) (ps : List Part) (c : Cursor) → path b (p ∷ q ∷ ps) c ≡ (add_intermediate mode p c >>= path false (q ∷ ps))) where
  -- a part more before parts for which the law holds
  part_before : (p q : Part) (ps : List Part) → ((c : Cursor) → (add_parts mode ps c >>= path false (p ∷ [])) ≡ path false (ps ++ (p ∷ [])) c) → (b : Bool) (c : Cursor)
      → (add_parts mode (q ∷ ps) c >>= path false (p ∷ [])) ≡ path b (q ∷ (ps ++ (p ∷ []))) c
  unfolding add_parts
  part_before p q ps ih b c = go (add_intermediate mode q c) ∙ unroll ps
    where
      go : (r : Result Cursor) → ((r >>= add_parts mode ps) >>= path false (p ∷ [])) ≡ (r >>= path false (ps ++ (p ∷ [])))
      go (accept c) = ih c
      go (refuse n) = refl

      unroll : (ps : List Part) → (add_intermediate mode q c >>= path false (ps ++ (p ∷ []))) ≡ path b (q ∷ (ps ++ (p ∷ []))) c
      unroll [] = sym (goes b q p [] c)
      unroll (r ∷ ps) = sym (goes b q r (ps ++ (p ∷ [])) c)

  split : (p : Part) (ps : List Part) (c : Cursor) → (add_parts mode ps c >>= path false (p ∷ [])) ≡ path false (ps ++ (p ∷ [])) c
  unfolding add_parts
  split p [] c = refl
  split p (q ∷ ps) c = part_before p q ps (split p ps) false c

  module _ {A : Type 0} (f : A → Part) (x : A) where
    there : (xs rest : List A) → xs ≡ rest ++ (x ∷ []) → (c : Cursor) → (add_parts mode (map f rest) c >>= path (eqb (length rest) 0) (f x ∷ [])) ≡ path true (map f xs) c
    unfolding add_parts
    there xs [] e c = rw e refl
    there xs (y ∷ rest) e c = rw (e, map-append f rest (x ∷ []), ne_eqb (suc (length rest)) 0 (λ (z : suc (length rest) ≡ 0). omega arith)) (part_before (f x) (f y) (map f rest) (split (f x) (map f rest)) true c)

    module _ (xs rest : List A) (e : xs ≡ rest ++ (x ∷ [])) (c : Cursor) where
      whole : (single : Bool) → single ≡ eqb (length rest) 0 → (c₁ : Cursor) → accept c₁ ≡ add_parts mode (map f rest) c → path single (f x ∷ []) c₁ ≡ path true (map f xs) c
      whole single b c₁ h = rw (← there xs rest e c, b, ← h)

      refused : (n : ℕ) → refuse n ≡ add_parts mode (map f rest) c → refuse n ≡ path true (map f xs) c
      refused n h = rw (← there xs rest e c, ← h)

module _ {A : Type 0} (f : A → Part) (mode : ℕ) (s : Step) (xs rest : List A) (x : A) (e : xs ≡ rest ++ (x ∷ [])) (c : Cursor) where
  pub map_whole : (c₁ : Cursor) → accept c₁ ≡ add_parts mode (map f rest) c → map_path mode (f x ∷ []) s c₁ ≡ map_path mode (map f xs) s c
  unfolding map_path
  map_whole = whole mode (λ b ps c. map_path mode ps s c) (λ b p q ps c. refl) f x xs rest e c (eqb (length rest) 0) refl

  pub map_refused : (n : ℕ) → refuse n ≡ add_parts mode (map f rest) c → refuse n ≡ map_path mode (map f xs) s c
  unfolding map_path
  map_refused = refused mode (λ b ps c. map_path mode ps s c) (λ b p q ps c. refl) f x xs rest e c

pub map_none : {A : Type 0} (f : A → Part) (mode : ℕ) (s : Step) (xs : List A) (c : Cursor) → length xs ≡ 0 → accept c ≡ map_path mode (map f xs) s c
unfolding map_path
map_none f mode s [] c h = refl
map_none f mode s (x ∷ xs) c h = absurd (omega arith)

module _ {A : Type 0} (f : A → Part) (mode : ℕ) (os : Option Step) (xs rest : List A) (x : A) (e : xs ≡ rest ++ (x ∷ [])) (c : Cursor) where
  pub prefix_whole : (single : Bool) → single ≡ eqb (length rest) 0 → (c₁ : Cursor) → accept c₁ ≡ add_parts mode (map f rest) c → prefix_path mode single (f x ∷ []) os c₁ ≡ prefix_path mode true (map f xs) os c
  unfolding prefix_path
  prefix_whole = whole mode (λ b ps c. prefix_path mode b ps os c) (λ b p q ps c. refl) f x xs rest e c

  pub prefix_refused : (n : ℕ) → refuse n ≡ add_parts mode (map f rest) c → refuse n ≡ prefix_path mode true (map f xs) os c
  unfolding prefix_path
  prefix_refused = refused mode (λ b ps c. prefix_path mode b ps os c) (λ b p q ps c. refl) f x xs rest e c

pub prefix_none : {A : Type 0} (f : A → Part) (mode : ℕ) (os : Option Step) (xs : List A) (c : Cursor) → length xs ≡ 0 → accept c ≡ prefix_path mode true (map f xs) os c
unfolding prefix_path
prefix_none f mode os [] c h = refl
prefix_none f mode os (x ∷ xs) c h = absurd (omega arith)
