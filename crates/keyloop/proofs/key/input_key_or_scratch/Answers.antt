-- After each round the loop over the keys that are left comes to what the whole loop comes to.
use Rattle.std.proofs.Common.{refl, ap, ◌∙◌, ◌≤◌, ◌<◌, ◌∷◌, [], length, subst, arith}
use native.Mathlib.Nat.{sub-zero}
use Rattle.rules.specs.KeyLoop.{input_key}
use Rattle.rules.proofs.Weights.{each_any, weight_cons, weight_nil, length-weight}
use Rattle.keytables.specs.View.{tables_of}
use Rattle.keypairs.specs.View.{live_of}
use Rattle.keyloop.specs.Stack.{keys_of}
use Rattle.keyloop.specs.View.{navigator_of}
use Rattle.keyloop.proofs.Weighed.{splits, weight_twice, Light, light_on}
use Rattle.keyloop.proofs.Loop.{loop_go}
use borrow.Author.Rules.{rules}
use Rattle.keyloop.proofs.key.input_key_or_scratch.Goals as goal

pub loop-rounds-init : goal.loop-rounds-init
unfolding input_key
loop-rounds-init c = let a = c.args in let tr = (live_of (tables_of a.map.now.tables.now) a.live.now).shared.trail in
    let short : length tr ≤ 64 = omega (arith, ap length c.on_trail-trail.ensures.value, c.on_trail-trail.ensures.few) in record {
      light = rw c.of-stack.ensures (record {
        tables = refl;
        weighs = omega (arith, weight_twice tr, short, weight_cons splits a.first [], weight_nil splits);
        few = omega (arith, weight_cons splits a.first [], weight_nil splits);
        trails = short;
        tries = (tt, tt);
        waits = each_any (λ k. tt) tr;
      });
      same = rw (c.of-stack.ensures, sub-zero);
    }

pub round-requires : goal.round-requires
round-requires c = let l = c.loop-rounds in let T = tables_of c.args.map.now.tables.now in let ks = keys_of c.pop.new.self in let k = c.in-Some.key in
    let h : Light T (k ∷ ks) (live_of T l.live) = subst (λ ks. Light T ks (live_of T l.live)) c.in-Some.ensures l.invariant.light in
    (omega (arith, h.few, weight_cons splits k ks, length-weight splits ks), omega (arith, h.weighs, weight_cons splits k ks, length-weight splits ks, length-weight splits (live_of T l.live).shared.trail))

pub loop-rounds-preserved : goal.loop-rounds-preserved
loop-rounds-preserved c = let l = c.loop-rounds in let a = c.args in let T = tables_of a.map.now.tables.now in let m = live_of T l.live in let nav = navigator_of a.map.now in let ks = keys_of c.pop.new.self in let k = c.in-Some.key in
    let h : Light T (k ∷ ks) m = subst (λ ks. Light T ks m) c.in-Some.ensures l.invariant.light in
    let small : k < 65536 = search rules in record {
      light = light_on nav T k ks (keys_of c.round.new.stack) m (live_of T c.round.new.live) small h c.in_default.ensures;
      same = loop_go nav a.budget l.rounds k (keys_of l.stack) ks m c.in-Some.ensures _ _ c.loop-rounds-test.true c.in_default.ensures ∙ l.invariant.same;
    }
