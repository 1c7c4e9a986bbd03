-- Document 02, request (iii): going through a node's edges one time is following. Why it is so: an edge and what
-- was remembered until then say what is remembered next (*one_more*), and there is nothing to take before the first. The key
-- graph's code has this as the invariant of its loop.
use Rattle.std.specs.Prelude.{if◌then◌else◌}
use Prim.Native.Nat.{ℕ, suc}
use mathlib.Core.Path.{◌≡◌, refl, sym, ap, ◌∙◌}
use mathlib.Core.Bool.{◌&&◌}
use mathlib.Core.List.{List, [], ◌∷◌, ◌++◌, append_assoc, append-nil}
use native.Mathlib.Omega.{arith}
use lib.Dec.{ltb, eqb}
use lib.ListN.{length}
use Rattle.rules.specs.Values.{Key, Class, Any, Fallthrough}
use Rattle.rules.specs.Tables.{ClassEntry}
use Rattle.rules.specs.Graph.{Node, Edge, is_edge, end_in, get_edge, Follow, Successor, FallsTo, NoSuccessor, events_of, follow_edge}
use Rattle.rules.specs.OnePass.{rank, rank_of, along, better, best_of}
use Rattle.rules.proofs.Ranks.{more, rank_by, law_all, end_append, follow_like, nowhere}

module _ (ns : List Node) (cs : List ClassEntry) (n k : ℕ) where
  -- what following takes in a graph with only these edges
  abbrev takes : List Edge → Follow
  takes es = follow_edge cs (record { nodes = ns; edges = es }) n k

  -- After one more edge, what following takes is what `better` makes of that edge and of what it took before
  pub one_more : (es : List Edge) (e : Edge) → takes (es ++ (e ∷ [])) ≡ better cs n k (takes es) e
  unfolding follow_edge get_edge end_in is_edge better rank_of
  one_more es e =
      follow_like (end_in (es ++ (e ∷ [])) n) (more (end_in es n) (eqb e.from n) e.event e.to) cs k
      (end_append es (e ∷ []) n (Key k)) (λ c. end_append es (e ∷ []) n (Class c)) (end_append es (e ∷ []) n Any) (end_append es (e ∷ []) n Fallthrough)
      ∙ law_all (end_in es n) (eqb e.from n) e.event e.to k cs
      ∙ ap (λ (r : ℕ). if eqb e.from n && ltb (rank cs k e.event) r then along e.event e.to else takes es) (same (takes es))
    where
      same : (f : Follow) → rank_by (rank cs k) (suc (suc (suc (length cs)))) f ≡ rank_of cs k f
      same (Successor ev x) = refl
      same (FallsTo x) = refl
      same NoSuccessor = omega arith

  -- With no edge gone through, it takes none
  pub nothing_yet : takes [] ≡ NoSuccessor
  unfolding follow_edge get_edge end_in
  nothing_yet = nowhere (events_of cs k)

  -- From any edges on: what is remembered of them and of those that come is what following takes of all
  one_pass_on : (es fs : List Edge) → best_of cs n k (takes es) fs ≡ takes (es ++ fs)
  unfolding best_of
  one_pass_on es [] = ap takes (sym (append-nil es))
  one_pass_on es (f ∷ fs) = ap (λ (b : Follow). best_of cs n k b fs) (sym (one_more es f)) ∙ one_pass_on (es ++ (f ∷ [])) fs ∙ ap takes (append_assoc es (f ∷ []) fs)

  -- The theorem: what is remembered after the whole pass is the edge that following takes
  pub one_pass : (es : List Edge) → best_of cs n k NoSuccessor es ≡ takes es
  one_pass es = ap (λ (b : Follow). best_of cs n k b es) (sym nothing_yet) ∙ one_pass_on [] es
