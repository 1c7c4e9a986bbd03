-- The map, then the keys, then the playing: the order of the definition, and each refusal ends it.
use native.Mathlib.Omega.{arith}
use mathlib.Core.Path.{sym, ap, ◌∙◌, subst}
use mathlib.Core.List.{[]}
use Rattle.rules.specs.Basics.{refuse}
use Rattle.rules.specs.Run.{play_keys}
use Rattle.keyvalues.specs.View.{number_of}
use Rattle.keyloop.proofs.Navigators.{index_leads}
use Rattle.keptcalls.specs.View.{kept_in}
use Rattle.mapfile.specs.View.{map_of, Ended}
use Rattle.mapfile.proofs.Runs.{no_map, no_keys, plays}
use Rattle.mapfile.proofs.play.play.Goals as goal

pub returns-in_err-read_map_or_scratch : goal.returns-in_err-read_map_or_scratch
returns-in_err-read_map_or_scratch c = λ lent e.
    let z = no_map c.args.map.now c.args.keys.now c.args.budget lent _ (c.in_err-read_map_or_scratch.ensures (c.fresh-read.ensures.fresh _)) in
    (grind (arith, z), λ ps k. cc)

pub returns-in_err-check_keys : goal.returns-in_err-check_keys
returns-in_err-check_keys c = λ lent e.
    let m = map_of c.read_map_or_scratch.new.kept c.read_map_or_scratch.new.map in
    let z = no_keys c.args.map.now c.args.keys.now c.args.budget lent m (c.in_ok-read_map_or_scratch.ensures (c.fresh-read.ensures.fresh _)) _ c.in_err-check_keys.ensures.1 ∙ ap (λ r. refuse (number_of r)) (sym c.in_err-check_keys.ensures.0) in
    (grind (arith, z), λ ps k. cc)

pub play_keys-requires : goal.play_keys-requires
play_keys-requires c = index_leads _ _ c.new.ensures

pub returns : goal.returns
returns c = λ lent e.
    let read = c.read_map_or_scratch.new in
    let m = map_of read.kept read.map in
    let k = c.in_ok-check_keys.ensures in
    let p = c.play_keys in
    subst (λ x. Ended x p.result c.args.out.now p.new.out) (ap (λ n. play_keys c.args.budget n k.0 m []) e ∙ sym (plays c.args.map.now c.args.keys.now c.args.budget lent m (c.in_ok-read_map_or_scratch.ensures (c.fresh-read.ensures.fresh _)) k.0 k.1)) (p.ensures (kept_in read.map.kept read.kept) k.0 k.1)
