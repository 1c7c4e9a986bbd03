-- An empty queue is no words; else the first word is the pair, and the others are shifted by one place.
use Rattle.std.proofs.Common.{◌≡◌, ◌++◌, ◌-◌, ◌≤◌, length, take, drop, get_or, refl, sym, ap, ◌∙◌, arith}
use lib.Seq.{get_or-take, take_at}
use lib.ListN.{length-take}
use Rattle.keypairs.specs.View.{machine_by}
use Rattle.keypairs.proofs.Calls.{shifted, pop_some}
use Rattle.keypairs.proofs.live.Live.pop.Goals as goal

pub returns : goal.returns
returns c gr ks t = let s = c.args.self.now in let k = s.state.queued in let w = c.waiting-waiting in let n = length w.result.now in
    let e : n ≡ length (take k s.queue) = ap length w.ensures in
    let m : n - 1 ≤ length s.queue = omega (arith, e, length-take k s.queue) in
    let l : length c.copy_from_slice.new.self ≡ n - 1 = omega (arith, c.copy_from_slice.ensures.len, length-take (n - 1) s.queue, m) in
    let left : take (n - 1) (c.copy_from_slice.new.self ++ drop (n - 1) s.queue) ≡ drop 1 (take k s.queue) = take_at c.copy_from_slice.new.self (drop (n - 1) s.queue) (n - 1) l ∙ c.copy_from_slice.ensures.after ∙ shifted s.queue k n e c.if-waiting-eq0.false in
    let first : get_or s.queue 0 0 ≡ get_or (take k s.queue) 0 0 = sym (get_or-take k s.queue 0 0 (omega (arith, length-take k s.queue))) in
    rw (c.unpack-first.ensures, left) (pop_some (machine_by gr ks t s) (take k s.queue) refl _ (λ h. c.if-waiting-eq0.false (e ∙ h)) first)
