-- The keys stand between what was above them and the key that was put there first.
use Rattle.std.proofs.Common.{ap, ◌∙◌, ℕ, ◌-◌, ◌≤◌, List, ◌++◌, length, take, drop, arith}
use lib.ListN.{length-take, length-drop}
use Rattle.keyloop.specs.Stack.{keys_of}
use Rattle.keyloop.proofs.PutBack.{put_mid_is, behind_first}
use Rattle.keyloop.proofs.stack.Stack.put_back.Goals as goal

pub overflow_sub-at : goal.overflow_sub-at
unfolding keys_of
overflow_sub-at c = let s = c.push.new.self in let tr = c.args.trail.now in
    omega (arith, s.within, ap length c.push.ensures, length-drop s.top s.keys, length-take (length tr - 1) (drop 1 tr), length-drop 1 tr, s.long, c.requires)

pub copy_from_slice-requires : goal.copy_from_slice-requires
unfolding keys_of
copy_from_slice-requires c = let s = c.push.new.self in let tr = c.args.trail.now in
    let r = take (length tr - 1) (drop 1 tr) in
    omega (arith, s.within, ap length c.push.ensures, length-drop s.top s.keys, length-take (length tr - 1) (drop 1 tr), length-drop 1 tr, length-drop (s.top - length r) s.keys, length-take (s.top - (s.top - length r)) (drop (s.top - length r) s.keys), s.long, c.requires)

pub returns-in-len1-up : goal.returns-in-len1-up
unfolding keys_of
returns-in-len1-up c = let s = c.push.new.self in let tr = c.args.trail.now in
    let r : List ℕ = take (length tr - 1) (drop 1 tr) in
    let low : s.top - length r ≤ s.top = omega arith in
    let high : s.top ≤ length s.keys = omega (arith, s.within, s.long) in
    rw c.copy_from_slice.ensures.after (put_mid_is s.keys r (s.top - length r) s.top low high ∙ ap (λ (z : List ℕ). r ++ z) c.push.ensures ∙ behind_first tr (keys_of c.args.self.now) c.args.key c.in-len1-up.len_at_least)
