-- The sequence of the number is fetched where it stands.
use Rattle.std.proofs.Common.{◌≡◌, ◌<◌, length, arith}
use Rattle.keypairs.specs.View.{over_of}
use Rattle.keypairs.proofs.Sequences.{fetched_in}
use borrow.Author.Rules.{rules}
use Rattle.keypairs.proofs.live.Live.fetch.Goals as goal

pub returns-clause-fetched : goal.returns-clause-fetched
returns-clause-fetched c = let a = c.args in let ss = a.self.now.sequences in let l : length ss ≡ 8 = search rules in
    let h : a.sequence < length ss = omega (arith, l, c.if-sequence-ge-SEQUENCES.false) in
    fetched_in ss a.sequence (over_of a.over) _ _ _ h c.fetch_in_place.ensures
