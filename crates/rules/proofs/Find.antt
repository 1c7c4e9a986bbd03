-- Document 02, request (ii): what find gives, said without computing it. Why it is so: the search goes through the nodes in the
-- order of their numbers and stops at the first that passes the test, and the test holds of the nodes that have the action alone.
use Rattle.std.specs.Prelude.{if◌then◌else◌}
use Prim.Native.Nat.{ℕ, zero, suc, ◌+◌, ◌≤◌, ◌<◌}
use native.Mathlib.Omega.{arith}
use mathlib.Core.Path.{◌≡◌, refl, sym, ap, subst, ◌∙◌}
use mathlib.Core.Bool.{Bool, true, false}
use mathlib.Core.Option.{Option, none, some}
use mathlib.Core.List.{List, [], ◌∷◌}
use mathlib.Core.Logic.{◌↔◌}
use lib.Dec.{eqb, ltb}
use lib.ListN.{length, get_or}
use borrow.Author.Count.{below_more}
use borrow.Author.Tests.{ltb-true, ltb-false}
use Rattle.rules.specs.Basics.{Result, accept, refuse, unless, some_of}
use Rattle.rules.specs.Values.{Step}
use Rattle.rules.specs.Graph.{NodeAction, Empty, Root, Holds, Node, Graph, no_node, get_node}
use Rattle.rules.specs.Calls.{does, holds_action, first_node, find}
use Rattle.rules.proofs.Tests.{by_cases, no_way, and_l, and_r, or_r, eqb_is, eqb_same}

-- Node n has the action in the mode: it is a node of that mode, and the action is in the list of its step
pub record Has (g : Graph) (mode action n : ℕ) : Type 0 where
  pub step : Step
  pub place : ℕ
  pub there : n < length g.nodes
  pub of_mode : (get_node g n).mode ≡ mode
  pub holds : (get_node g n).action ≡ Holds step
  pub in_list : place < length step.actions
  pub listed : get_or step.actions place 0 ≡ action

-- What an answer says. A node: it has the action, and no lower one has. "None": no node has. A refusal is 1, for a mode over 15
abbrev pub Says : Graph → ℕ → ℕ → Result (Option ℕ) → Type 0
Says g mode a (accept (some n)) = (mode ≤ 15) × Has g mode a n × ((k : ℕ) → k < n → ¬ Has g mode a k)
Says g mode a (accept none) = (mode ≤ 15) × ((k : ℕ) → ¬ Has g mode a k)
Says g mode a (refuse n) = (15 < mode) × (n ≡ 1)

-- The theorem: find gives an answer exactly if what it says is so
pub find_says : (g : Graph) (mode a : ℕ) (r : Result (Option ℕ)) → (find g mode a ≡ r) ↔ Says g mode a r
unfolding find first_node holds_action does some_of get_node no_node
find_says g mode a r = (λ e. subst (Says g mode a) e answer, λ h. one_answer (find g mode a) r answer h)
  where
    -- ---- what an answer says is so of one answer only
    apart : (m n : ℕ) → ¬ (m < n) → ¬ (n < m) → m ≡ n
    apart m n h k = omega arith

    one_answer : (q r : Result (Option ℕ)) → Says g mode a q → Says g mode a r → q ≡ r
    one_answer (accept (some m)) (accept (some n)) h k = ap (λ i. accept (some i)) (apart m n (λ l. k.2 m l h.1) (λ l. h.2 n l k.1))
    one_answer (accept (some m)) (accept none) h k = absurd (k.1 m h.1)
    one_answer (accept (some m)) (refuse n) h k = absurd (omega (arith, h.0, k.0))
    one_answer (accept none) (accept (some n)) h k = absurd (h.1 n k.1)
    one_answer (accept none) (accept none) h k = refl
    one_answer (accept none) (refuse n) h k = absurd (omega (arith, h.0, k.0))
    one_answer (refuse m) (accept (some n)) h k = absurd (omega (arith, h.0, k.0))
    one_answer (refuse m) (accept none) h k = absurd (omega (arith, h.0, k.0))
    one_answer (refuse m) (refuse n) h k = ap refuse (h.1 ∙ sym k.1)

    -- ---- the test holds of the nodes that have the action, and of no others
    in_list : (xs : List ℕ) → some_of (eqb a) xs ≡ true → (i : ℕ) × (i < length xs) × (get_or xs i 0 ≡ a)
    in_list [] e = no_way e
    in_list (x ∷ xs) e =
        by_cases (eqb a x) (λ h. (0, omega arith, sym (eqb_is a x h))) (λ h. let k = in_list xs (rw h at e) in (suc k.0, omega (arith, k.1), k.2))

    listed : (xs : List ℕ) (i : ℕ) → i < length xs → get_or xs i 0 ≡ a → some_of (eqb a) xs ≡ true
    listed [] i h e = absurd (omega arith)
    listed (x ∷ xs) zero h e = rw (e, eqb_same a) refl
    listed (x ∷ xs) (suc i) h e = or_r (eqb a x) (some_of (eqb a) xs) (listed xs i (omega arith) e)

    does_holds : (x : NodeAction) → does a x ≡ true → (s : Step) × (x ≡ Holds s) × (some_of (eqb a) s.actions ≡ true)
    does_holds Empty e = no_way e
    does_holds Root e = no_way e
    does_holds (Holds s) e = (s, refl, e)

    has : (n : ℕ) → n < length g.nodes → holds_action mode a (get_node g n) ≡ true → Has g mode a n
    has n h e =
        let x = get_node g n in
        let d = does_holds x.action (and_r (eqb x.mode mode) (does a x.action) e) in
        let i = in_list d.0.actions d.2 in
        record { step = d.0; place = i.0; there = h; of_mode = eqb_is x.mode mode (and_l (eqb x.mode mode) (does a x.action) e); holds = d.1; in_list = i.1; listed = i.2 }

    has_not : (n : ℕ) → holds_action mode a (get_node g n) ≡ false → ¬ Has g mode a n
    has_not n e h = no_way (sym e ∙ rw (h.of_mode, eqb_same mode, h.holds) (listed h.step.actions h.place h.in_list h.listed))

    -- ---- the search: xs are the nodes from number i on, and none below has the action
    either : (i : ℕ) (o : Option ℕ) (b : Bool) → (b ≡ true → Says g mode a (accept (some i))) → (b ≡ false → Says g mode a (accept o)) → Says g mode a (accept (if b then some i else o))
    either i o true h k = h refl
    either i o false h k = k refl

    search : mode ≤ 15 → (xs : List Node) (i : ℕ) → length g.nodes ≡ i + length xs → ((k : ℕ) → get_node g (i + k) ≡ get_or xs k no_node)
        → ((k : ℕ) → k < i → ¬ Has g mode a k) → Says g mode a (accept (first_node (holds_action mode a) i xs))
    search m [] i all at below = (m, λ k h. below k (omega (arith, h.there, all)) h)
    search m (x ∷ xs) i all at below =
        let this : holds_action mode a (get_node g i) ≡ holds_action mode a x = ap (holds_action mode a) (subst (λ k. get_node g k ≡ x) (omega arith) (at 0)) in
        either i (first_node (holds_action mode a) (suc i) xs) (holds_action mode a x) (λ e. (m, has i (omega arith) (this ∙ e), below)) (λ e.
        search m xs (suc i) (omega arith) (λ k. subst (λ j. get_node g j ≡ get_or xs k no_node) (omega arith) (at (suc k))) (λ k l. below_more (λ n. ¬ Has g mode a n) i below (has_not i (this ∙ e)) k (omega arith)))

    answer : Says g mode a (find g mode a)
    answer = pick (ltb mode 16) refl
      where
        pick : (b : Bool) → ltb mode 16 ≡ b → Says g mode a (unless b 1 (accept (first_node (holds_action mode a) 0 g.nodes)))
        pick true e = search (omega (arith, ltb-true mode 16 e)) g.nodes 0 (omega arith) (λ k. ap (get_node g) (omega arith)) (λ k l. absurd (omega arith))
        pick false e = (ltb-false mode 16 e, refl)
