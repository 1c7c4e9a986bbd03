-- The loop keeps: what is still to be played, from the machine and the pairs so far, comes to what the whole play comes to,
-- and the pairs' bytes stand in front of the output. Each way of a turn is one law of proofs/Playing.antt.
use native.Mathlib.Omega.{arith}
use mathlib.Core.Path.{refl, sym, ap, subst, ◌∙◌}
use mathlib.Core.List.{map}
use Rattle.keyparts.specs.View.{graph_of}
use Rattle.keytables.specs.View.{tables_of}
use Rattle.keypairs.specs.View.{pair_of, live_of}
use Rattle.mapparts.specs.View.{page_of, put_all}
use Rattle.mapparts.proofs.KeyBytes.{shorter}
use Rattle.mapfile.specs.View.{pair_numbers}
use Rattle.mapfile.proofs.PairBytes.{words_small}
use Rattle.mapfile.proofs.Playing.{Playing, starts, played_all, played_bad, key_refused, key_full, key_played}
use Rattle.mapfile.proofs.play.play_keys.Goals as goal

pub loop-reader-init : goal.loop-reader-init
loop-reader-init c =
    let m = c.args.map.now in
    let t = tables_of m.tables.now in
    record { name = refl; long = refl; left = λ cs ks h. starts (graph_of m.indexed.graph.now) cs t c.args.budget c.args.out.now ks c.args.keys.now _ (c.fresh-live.ensures t) h }

pub returns-in_err-key : goal.returns-in_err-key
returns-in_err-key c = λ cs ks h.
    let z = played_bad (c.loop-reader.invariant.left cs ks h) c.in_err-key.field-0.0 (λ e. grind arith) c.in_err-key.ensures.reads in
    (grind (arith, z), λ ps k. cc)

pub returns-in_err-answer : goal.returns-in_err-answer
returns-in_err-answer c = λ cs ks h.
    let k = c.input_key_or_scratch-rounds in
    let z = key_refused (c.loop-reader.invariant.left cs ks h) c.in_ok-key.ensures.reads k.result (live_of (tables_of c.args.map.now.tables.now) k.new.live) c.requires k.ensures c.in_err-answer.field-0.0 c.in_err-answer.was in
    (grind (arith, z), λ ps k. cc)

pub returns-in_err-put_pairs : goal.returns-in_err-put_pairs
returns-in_err-put_pairs c = λ cs ks h.
    let k = c.input_key_or_scratch-rounds in
    let w = ap (λ ws. put_all (pair_numbers (map pair_of ws)) (page_of c.loop-reader.writer)) c.waiting.ensures in
    let z = key_full (c.loop-reader.invariant.left cs ks h) c.in_ok-key.ensures.reads k.result (live_of (tables_of c.args.map.now.tables.now) k.new.live) c.requires k.ensures c.in_ok-answer.was c.in_err-put_pairs.field-0.0 (c.in_err-put_pairs.ensures.2 ∙ w) in
    (grind (arith, z), λ ps k. cc)

pub loop-reader-smaller : goal.loop-reader-smaller
loop-reader-smaller c = shorter _ _ _ c.in_ok-key.ensures.reads

pub loop-reader-preserved : goal.loop-reader-preserved
loop-reader-preserved c =
    let L = c.loop-reader in
    let t = tables_of c.args.map.now.tables.now in
    let k = c.input_key_or_scratch-rounds in
    let p = c.in_ok-put_pairs.ensures in
    let w = ap (λ ws. put_all (pair_numbers (map pair_of ws)) (page_of L.writer)) c.waiting.ensures in
    record {
      name = p.0 ∙ L.invariant.name;
      long = p.1 ∙ L.invariant.long;
      left = λ cs ks h.
          subst (λ x. Playing (graph_of c.args.map.now.indexed.graph.now) cs t c.args.budget c.args.out.now ks c.number.new.self.rest.now x c.put_pairs.new.writer.at c.put_pairs.new.writer.bytes.now) (sym (c.clear_queue.ensures t))
          (key_played (L.invariant.left cs ks h) c.in_ok-key.ensures.reads k.result (live_of t k.new.live) c.requires k.ensures c.in_ok-answer.was (page_of c.put_pairs.new.writer) (p.2 ∙ w) p.1 (words_small _));
    }

pub returns : goal.returns
returns c = λ cs ks h.
    let z = played_all (c.loop-reader.invariant.left cs ks h) (grind arith) in
    (z.0, λ ps k. let w = z.1 ps k in grind (arith, w))
