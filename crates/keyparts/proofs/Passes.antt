-- Why the pass along two chains is following by the links. A chain has edges of other nodes and events too; those gone through are the
-- node's edges of one group, the key's or that of all events that are no key. The two groups have, for every event that the key matches,
-- the end that the links lead to; and what is remembered of them is what following takes in a graph with only these.
use Rattle.std.specs.Prelude.{if◌then◌else◌, cond}
use Rattle.std.specs.List.{filter}
use Prim.Native.Nat.{ℕ, zero, suc, ◌+◌, ◌-◌, ◌*◌, ◌/◌, ◌%◌, ◌<◌, ◌≤◌}
use mathlib.Core.Path.{◌≡◌, refl, sym, ap, ap₂, ◌∙◌, subst}
use mathlib.Core.Bool.{Bool, true, false}
use mathlib.Core.List.{List, [], ◌∷◌, ◌++◌, map, map-append, append_assoc, append-nil}
use mathlib.Core.Option.{none, some}
use native.Mathlib.Omega.{arith}
use lib.Dec.{ltb}
use lib.ListN.{length, get_or, length-map}
use borrow.Author.Tests.{lt-ltb, le-ltb, eq-eqb, ne_eqb, eqb-true, ltb-true, ltb-false}
use Rattle.rules.specs.Basics.{or_else}
use Rattle.rules.specs.Values.{Event, Key, Class, Any, Fallthrough, same_event}
use Rattle.rules.specs.Tables.{ClassEntry}
use Rattle.rules.specs.OnePass.{rank}
use Rattle.rules.specs.Graph.{Edge, Follow, is_edge, end_in, get_edge, follow_edge}
use Rattle.rules.proofs.Tests.{no_way}
use Rattle.rules.proofs.Places.{or_none}
use Rattle.rules.proofs.Ranks.{end_append, follow_like}
use Rattle.keyvalues.specs.View.{event_at, event_code, class_at}
use Rattle.keyvalues.specs.declared.class.ClassWord.{ClassWord}
use Rattle.keyvalues.proofs.Words.{same_code}
use Rattle.keyparts.specs.declared.edge.EdgeWord.{EdgeWord}
use Rattle.keyparts.specs.declared.follow.Ranked.{Ranked}
use Rattle.keyparts.specs.View.{no_edge, key_in, edge_of, chain_of, place_on, linked_place, end_at, linked_end, follow_links}
use Rattle.keyparts.specs.Pass.{words_on, group_of, in_group, through, follow_in, found_of, first_rank, Remembers, NoneYet, After}
use Rattle.keyparts.proofs.Links.{edge_has, end_on}
use Rattle.keyparts.proofs.Remembered.{remembers_least}

-- ---- groups

group_key : (n c : ℕ) → n < 65536 → c < 65536 → group_of (n + c * 65536) ≡ n + c * 65536
unfolding group_of
group_key n c h l = let a : (n + c * 65536) / 65536 < 65536 = omega arith in rw (lt-ltb ((n + c * 65536) / 65536) 65536 a)

group_other : (n c : ℕ) → n < 65536 → 65536 ≤ c → group_of (n + c * 65536) ≡ 4294967296 + n
unfolding group_of
group_other n c h l = let a : 65536 ≤ (n + c * 65536) / 65536 = omega arith in rw (le-ltb ((n + c * 65536) / 65536) 65536 a) (omega arith)

-- a group has the edges of one node alone
group_low : (key : ℕ) → group_of key % 65536 ≡ key % 65536
unfolding group_of
group_low key = go (ltb (key / 65536) 65536)
  where
    go : (b : Bool) → (if b then key else 4294967296 + key % 65536) % 65536 ≡ key % 65536
    go true = refl
    go false = omega arith

group_from : (n c : ℕ) (w : EdgeWord) → n < 65536 → in_group (n + c * 65536) w ≡ true → (edge_of w).from ≡ n
unfolding edge_of in_group
group_from n c w h e =
    sym (group_low (key_in w)) ∙ ap (λ (g : ℕ). g % 65536) (eqb-true (group_of (key_in w)) (group_of (n + c * 65536)) e) ∙ group_low (n + c * 65536) ∙ omega arith

-- a key's group has its event alone
pub group_event : (n j : ℕ) (w : EdgeWord) → n < 65536 → j < 65536 → in_group (n + j * 65536) w ≡ true → (edge_of w).event ≡ Key j
unfolding edge_of in_group group_of event_at
group_event n j w hn hj e =
    let q = same (ltb (key_in w / 65536) 65536) (eqb-true (group_of (key_in w)) (group_of (n + j * 65536)) e ∙ group_key n j hn hj) in
    let c : key_in w / 65536 ≡ j = omega arith in
    rw (c, lt-ltb j 65536 hj)
  where
    same : (b : Bool) → (if b then key_in w else 4294967296 + key_in w % 65536) ≡ n + j * 65536 → key_in w ≡ n + j * 65536
    same true g = g
    same false g = absurd (omega arith)

-- and the other group has no event of a key
group_other_code : (n c : ℕ) (w : EdgeWord) → n < 65536 → 65536 ≤ c → in_group (n + c * 65536) w ≡ true → 65536 ≤ key_in w / 65536
unfolding in_group group_of
group_other_code n c w hn hc e = past (ltb (key_in w / 65536) 65536) refl (eqb-true (group_of (key_in w)) (group_of (n + c * 65536)) e ∙ group_other n c hn hc)
  where
    past : (b : Bool) → ltb (key_in w / 65536) 65536 ≡ b → (if b then key_in w else 4294967296 + key_in w % 65536) ≡ 4294967296 + n → 65536 ≤ key_in w / 65536
    past true t g = let l = ltb-true (key_in w / 65536) 65536 t in absurd (omega arith)
    past false t g = ltb-false (key_in w / 65536) 65536 t

no_key_least : (cs : List ClassEntry) (k : ℕ) (w : EdgeWord) → k < 65536 → 65536 ≤ key_in w / 65536 → 1 ≤ rank cs k (edge_of w).event
unfolding rank edge_of event_at
no_key_least cs k w hk h =
    let d : key_in w / 65536 ≡ k → ⊥ = λ z. absurd (omega arith) in
    let e : same_event (event_at (key_in w / 65536)) (Key k) ≡ false = ap (same_event (event_at (key_in w / 65536))) (sym (key_event hk)) ∙ same_code (key_in w / 65536) k ∙ ne_eqb (key_in w / 65536) k d in
    rw e (omega arith)
  where
    key_event : k < 65536 → event_at k ≡ Key k
    key_event l = rw (lt-ltb k 65536 l)

group_least : (cs : List ClassEntry) (n k : ℕ) (ev : Event) (w : EdgeWord) → n < 65536 → k < 65536 → in_group (n + event_code ev * 65536) w ≡ true → first_rank ev ≤ rank cs k (edge_of w).event
unfolding event_code
group_least cs n k (Key j) w hn hk e = omega arith
group_least cs n k (Class c) w hn hk e = no_key_least cs k w hk (group_other_code n (65536 + c) w hn (omega arith) e)
group_least cs n k Any w hn hk e = no_key_least cs k w hk (group_other_code n 131072 w hn (omega arith) e)
group_least cs n k Fallthrough w hn hk e = no_key_least cs k w hk (group_other_code n 131073 w hn (omega arith) e)

-- all events of a node that are no keys have one chain
chain_other : (n c d : ℕ) → n < 65536 → 65536 ≤ c → 65536 ≤ d → chain_of (n + c * 65536) ≡ chain_of (n + d * 65536)
unfolding chain_of
chain_other n c d h hc hd =
    let a : 65536 ≤ (n + c * 65536) / 65536 = omega arith in
    let b : 65536 ≤ (n + d * 65536) / 65536 = omega arith in
    rw (le-ltb ((n + c * 65536) / 65536) 65536 a, le-ltb ((n + d * 65536) / 65536) 65536 b) (omega arith)

any_code : 65536 ≤ event_code Any
unfolding event_code
any_code = omega arith

-- ---- the words that are gone through
module _ (p : EdgeWord → Bool) (n : ℕ) (ev : Event) where
  -- those that pass the test have the same end for an event whose edges all pass, and none for one of which no edge does
  kept_all : ((w : EdgeWord) → is_edge n ev (edge_of w) ≡ true → p w ≡ true) → (ws : List EdgeWord) → end_in (map edge_of (filter p ws)) n ev ≡ end_in (map edge_of ws) n ev
  unfolding end_in
  kept_all h [] = refl
  kept_all h (w ∷ ws) = go (is_edge n ev (edge_of w)) refl (p w) refl (kept_all h ws)
    where
      go : (t : Bool) → is_edge n ev (edge_of w) ≡ t → (b : Bool) → p w ≡ b → end_in (map edge_of (filter p ws)) n ev ≡ end_in (map edge_of ws) n ev
          → end_in (map edge_of (cond b (w ∷ filter p ws) (filter p ws))) n ev ≡ (if t then some (edge_of w).to else end_in (map edge_of ws) n ev)
      go true f true e ih = rw f
      go true f false e ih = no_way (sym e ∙ h w f)
      go false f true e ih = rw f ih
      go false f false e ih = ih

  kept_none : ((w : EdgeWord) → is_edge n ev (edge_of w) ≡ true → p w ≡ false) → (ws : List EdgeWord) → end_in (map edge_of (filter p ws)) n ev ≡ none
  unfolding end_in
  kept_none h [] = refl
  kept_none h (w ∷ ws) = go (is_edge n ev (edge_of w)) refl (p w) refl (kept_none h ws)
    where
      go : (t : Bool) → is_edge n ev (edge_of w) ≡ t → (b : Bool) → p w ≡ b → end_in (map edge_of (filter p ws)) n ev ≡ none
          → end_in (map edge_of (cond b (w ∷ filter p ws) (filter p ws))) n ev ≡ none
      go true f true e ih = no_way (sym (h w f) ∙ e)
      go t f false e ih = ih
      go false f true e ih = rw f ih

-- an edge for the key is of the key's group alone, and one for another event of the other group alone
module _ (n k : ℕ) (hn : n < 65536) (hk : k < 65536) where
  key_own : (w : EdgeWord) → is_edge n (Key k) (edge_of w) ≡ true → in_group (n + k * 65536) w ≡ true
  unfolding in_group event_code
  key_own w t = eq-eqb (group_of (key_in w)) (group_of (n + k * 65536)) (ap group_of (sym (edge_has n (Key k) w t)))

  key_not : (w : EdgeWord) → is_edge n (Key k) (edge_of w) ≡ true → in_group (n + event_code Any * 65536) w ≡ false
  unfolding in_group event_code
  key_not w t =
      let e : group_of (key_in w) ≡ n + k * 65536 = ap group_of (sym (edge_has n (Key k) w t)) ∙ group_key n k hn hk in
      ne_eqb (group_of (key_in w)) (group_of (n + 131072 * 65536)) (λ z. absurd (omega (arith, e, z, group_other n 131072 hn any_code)))

  module _ (ev : Event) (he : 65536 ≤ event_code ev) where
    other_group : (w : EdgeWord) → is_edge n ev (edge_of w) ≡ true → group_of (key_in w) ≡ 4294967296 + n
    other_group w t = ap group_of (sym (edge_has n ev w t)) ∙ group_other n (event_code ev) hn he

    other_own : (w : EdgeWord) → is_edge n ev (edge_of w) ≡ true → in_group (n + event_code Any * 65536) w ≡ true
    unfolding in_group
    other_own w t = eq-eqb (group_of (key_in w)) (group_of (n + event_code Any * 65536)) (other_group w t ∙ sym (group_other n (event_code Any) hn any_code))

    other_not : (w : EdgeWord) → is_edge n ev (edge_of w) ≡ true → in_group (n + k * 65536) w ≡ false
    unfolding in_group
    other_not w t = ne_eqb (group_of (key_in w)) (group_of (n + k * 65536)) (λ z. absurd (omega (arith, z, other_group w t, group_key n k hn hk)))

-- so the two chains together have, for every event that the key matches, the end that the links lead to
abbrev pub through_both : List EdgeWord → List ℕ → ℕ → ℕ → List EdgeWord
through_both ws ls n k = through ws ls n (Key k) ++ through ws ls n Any

module _ (ws : List EdgeWord) (ls : List ℕ) (n k : ℕ) (hn : n < 65536) (hk : k < 65536) where
  both_end : (ev : Event) → end_in (map edge_of (through_both ws ls n k)) n ev ≡ or_else (end_in (map edge_of (through ws ls n (Key k))) n ev) (end_in (map edge_of (through ws ls n Any)) n ev)
  both_end ev =
      ap (λ (es : List Edge). end_in es n ev) (map-append edge_of (through ws ls n (Key k)) (through ws ls n Any))
      ∙ end_append (map edge_of (through ws ls n (Key k))) (map edge_of (through ws ls n Any)) n ev

  key_end : end_in (map edge_of (through_both ws ls n k)) n (Key k) ≡ linked_end ws ls n (Key k)
  unfolding through linked_end linked_place event_code
  key_end =
      both_end (Key k)
      ∙ ap₂ or_else
      (kept_all (in_group (n + k * 65536)) n (Key k) (key_own n k hn hk) (words_on 2048 ws ls (get_or ls (chain_of (n + k * 65536)) 0)) ∙ end_on n (Key k) ws ls 2048 (get_or ls (chain_of (n + k * 65536)) 0))
      (kept_none (in_group (n + event_code Any * 65536)) n (Key k) (key_not n k hn hk) (words_on 2048 ws ls (get_or ls (chain_of (n + event_code Any * 65536)) 0)))
      ∙ or_none (end_at ws n (Key k) (place_on 2048 ws ls (n + k * 65536) (get_or ls (chain_of (n + k * 65536)) 0)))

  other_end : (ev : Event) → 65536 ≤ event_code ev → end_in (map edge_of (through_both ws ls n k)) n ev ≡ linked_end ws ls n ev
  unfolding through linked_end linked_place event_code
  other_end ev he =
      both_end ev
      ∙ ap₂ or_else
      (kept_none (in_group (n + event_code (Key k) * 65536)) n ev (other_not n k hn hk ev he) (words_on 2048 ws ls (get_or ls (chain_of (n + event_code (Key k) * 65536)) 0)))
      (kept_all (in_group (n + event_code Any * 65536)) n ev (other_own n k hn hk ev he) (words_on 2048 ws ls (get_or ls (chain_of (n + event_code Any * 65536)) 0)) ∙ end_on n ev ws ls 2048 (get_or ls (chain_of (n + event_code Any * 65536)) 0))
      ∙ ap (λ (c : ℕ). end_at ws n ev (place_on 2048 ws ls (n + event_code ev * 65536) (get_or ls c 0))) (chain_other n (event_code Any) (event_code ev) hn any_code he)

  pub both_follow : (cs : List ClassEntry) → follow_in cs (through_both ws ls n k) n k ≡ follow_links cs ws ls n k
  unfolding follow_in follow_links follow_edge get_edge event_code
  both_follow cs =
      follow_like (end_in (map edge_of (through_both ws ls n k)) n) (linked_end ws ls n) cs k
      key_end (λ c. other_end (Class c) (omega arith)) (other_end Any (omega arith)) (other_end Fallthrough (omega arith))

-- ---- the pass: the words `far` are gone through, and of the chain so many steps are left, from place i on
abbrev group : ℕ → Event → ℕ
group n ev = n + event_code ev * 65536

abbrev ahead : ℕ → Event → List EdgeWord → List ℕ → ℕ → ℕ → List EdgeWord
ahead n ev ws ls left i = filter (in_group (group n ev)) (words_on left ws ls i)

pub record Passed (cs : List ClassEntry) (n k : ℕ) (ws : List EdgeWord) (ls : List ℕ) (ev : Event) (start : Ranked) (left i : ℕ) (b : Ranked) : Type 0 where
  far : List EdgeWord
  way : through ws ls n ev ≡ far ++ ahead n ev ws ls left i
  best : After cs n k start far b

module _ {cs : List ClassEntry} {n k : ℕ} {ws : List EdgeWord} {ls : List ℕ} {ev : Event} {start : Ranked} where
  pub passed_none : Passed cs n k ws ls ev start 2048 (get_or ls (chain_of (group n ev)) 0) start
  unfolding through
  passed_none = record { far = []; way = refl; best = record { best = λ before h. subst (λ (l : List EdgeWord). Remembers cs n k l start) (sym (append-nil before)) h } }

  module _ {left i : ℕ} {b : Ranked} (p : Passed cs n k ws ls ev start left i b) where
    -- none of the edges ahead can be better
    pub passed_first : n < 65536 → k < 65536 → b.rank ≤ first_rank ev → After cs n k start (through ws ls n ev) b
    passed_first hn hk z = record {
      best = λ before h.
          subst (λ (l : List EdgeWord). Remembers cs n k l b) (append_assoc before p.far (ahead n ev ws ls left i) ∙ ap (λ (l : List EdgeWord). before ++ l) (sym p.way))
          (remembers_least cs n k (first_rank ev) b z (in_group (group n ev)) (λ x. group_least cs n k ev x hn hk) (words_on left ws ls i) (before ++ p.far) (p.best.best before h));
    }

    -- the chain has ended, at a place or after its steps
    ended : ahead n ev ws ls left i ≡ [] → After cs n k start (through ws ls n ev) b
    ended e =
        let f : p.far ≡ through ws ls n ev = sym (append-nil p.far) ∙ ap (λ (l : List EdgeWord). p.far ++ l) (sym e) ∙ sym p.way in
        subst (λ (es : List EdgeWord). After cs n k start es b) f p.best

    pub passed_out : length ws ≤ i → After cs n k start (through ws ls n ev) b
    unfolding words_on
    passed_out o = ended (out left)
      where
        out : (m : ℕ) → ahead n ev ws ls m i ≡ []
        out zero = refl
        out (suc m) = rw (le-ltb i (length ws) o)

    pub passed_all : left ≡ 0 → After cs n k start (through ws ls n ev) b
    unfolding words_on
    passed_all z = ended (rw z)

    module _ (l : i < length ws) (s : 0 < left) where
      next : ahead n ev ws ls left i ≡ cond (in_group (group n ev) (get_or ws i no_edge)) (get_or ws i no_edge ∷ ahead n ev ws ls (left - 1) (get_or ls i 0)) (ahead n ev ws ls (left - 1) (get_or ls i 0))
      unfolding words_on
      next = let q : left ≡ suc (left - 1) = omega arith in ap (λ (m : ℕ). ahead n ev ws ls m i) q ∙ rw (lt-ltb i (length ws) l)

      -- a word of another group, and one of this group
      pub passed_over : in_group (group n ev) (get_or ws i no_edge) ≡ false → Passed cs n k ws ls ev start (left - 1) (get_or ls i 0) b
      passed_over e = record {
        far = p.far;
        way = p.way ∙ ap (λ (l : List EdgeWord). p.far ++ l) (next ∙ rw e);
        best = p.best;
      }

      pub passed_more : (edge new : Ranked) → n < 65536 → in_group (group n ev) (get_or ws i no_edge) ≡ true → edge.word ≡ get_or ws i no_edge
          → After cs (edge_of edge.word).from k b (edge.word ∷ []) new → Passed cs n k ws ls ev start (left - 1) (get_or ls i 0) new
      passed_more edge new hn e w f =
          let from : (edge_of edge.word).from ≡ n = ap (λ (x : EdgeWord). (edge_of x).from) w ∙ group_from n (event_code ev) (get_or ws i no_edge) hn e in
          let more : After cs n k b (get_or ws i no_edge ∷ []) new = subst (λ (x : EdgeWord). After cs n k b (x ∷ []) new) w (rw from at f) in
          record {
            far = p.far ++ (get_or ws i no_edge ∷ []);
            way = p.way ∙ ap (λ (l : List EdgeWord). p.far ++ l) (next ∙ rw e) ∙ sym (append_assoc p.far (get_or ws i no_edge ∷ []) (ahead n ev ws ls (left - 1) (get_or ls i 0)));
            best = record { best = λ before h. subst (λ (l : List EdgeWord). Remembers cs n k l new) (append_assoc before p.far (get_or ws i no_edge ∷ [])) (more.best (before ++ p.far) (p.best.best before h)) };
          }

-- ---- what is found after the one chain, and after both: `none` is remembered before, `own` after the first, `best` after the second
module _ (classes : List ClassWord) (ws : List EdgeWord) (ls : List ℕ) (n k : ℕ) (hn : n < 65536) (hk : k < 65536) (none own : Ranked)
    (before : NoneYet (map class_at classes) none) (first : After (map class_at classes) n k none (through ws ls n (Key k)) own) where
  found_of_both : (b : Ranked) → Remembers (map class_at classes) n k (through_both ws ls n k) b → found_of (length classes) k b.rank b.word ≡ follow_links (map class_at classes) ws ls n k
  found_of_both b h = ap (λ (m : ℕ). found_of m k b.rank b.word) (sym (length-map classes class_at)) ∙ h.edge ∙ both_follow ws ls n k hn hk (map class_at classes)

  -- no edge stands before a Key edge
  pub found_own : own.rank ≡ 0 → (f : Follow) → f ≡ found_of (length classes) k own.rank own.word → f ≡ follow_links (map class_at classes) ws ls n k
  unfolding through
  found_own z f e =
      e ∙ found_of_both own
      (remembers_least (map class_at classes) n k 0 own (omega arith) (in_group (n + event_code Any * 65536)) (λ x e. omega arith)
      (words_on 2048 ws ls (get_or ls (chain_of (n + event_code Any * 65536)) 0)) (through ws ls n (Key k)) (first.best [] (before.none n k)))

  pub found_both : (best : Ranked) → After (map class_at classes) n k own (through ws ls n Any) best
      → (f : Follow) → f ≡ found_of (length classes) k best.rank best.word → f ≡ follow_links (map class_at classes) ws ls n k
  found_both best second f e = e ∙ found_of_both best (second.best (through ws ls n (Key k)) (first.best [] (before.none n k)))
