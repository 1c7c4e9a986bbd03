-- Each return is one case of the rules' reading by the first three bytes (proofs/NumberBy.antt).
use native.Mathlib.Omega.{arith}
use Rattle.mapparts.proofs.NumberBy.{none, one, one_short, two_zero, two, two_short, three_zero, three, four}
use Rattle.mapparts.proofs.reader.Reader.groups.Goals as goal

pub returns-in_err-b-clause-reads : goal.returns-in_err-b-clause-reads
returns-in_err-b-clause-reads c = let h = none _ c.in_err-b.ensures.1 in grind (arith, h)

pub returns-then-b-lt128-clause-reads : goal.returns-then-b-lt128-clause-reads
returns-then-b-lt128-clause-reads c = one _ _ _ c.in_ok-b.ensures.1 c.if-b-lt128.true

pub returns-in_err-c-clause-reads : goal.returns-in_err-c-clause-reads
returns-in_err-c-clause-reads c = let h = one_short _ _ _ c.in_ok-b.ensures.1 c.if-b-lt128.false c.in_ok-b.ensures.0 c.in_err-c.ensures.1 in grind (arith, h)

pub returns-then-c-eq0-clause-reads : goal.returns-then-c-eq0-clause-reads
returns-then-c-eq0-clause-reads c = two_zero _ _ _ c.in_ok-b.ensures.1 c.if-b-lt128.false c.in_ok-b.ensures.0 _ _ c.in_ok-c.ensures.1 c.if-c-eq0.true

pub returns-then-c-lt128-clause-reads : goal.returns-then-c-lt128-clause-reads
returns-then-c-lt128-clause-reads c = two _ _ _ c.in_ok-b.ensures.1 c.if-b-lt128.false c.in_ok-b.ensures.0 _ _ c.in_ok-c.ensures.1 c.if-c-eq0.false c.if-c-lt128.true

pub returns-in_err-d-clause-reads : goal.returns-in_err-d-clause-reads
returns-in_err-d-clause-reads c = let h = two_short _ _ _ c.in_ok-b.ensures.1 c.if-b-lt128.false c.in_ok-b.ensures.0 _ _ c.in_ok-c.ensures.1 c.if-c-lt128.false c.in_ok-c.ensures.0 c.in_err-d.ensures.1 in grind (arith, h)

pub returns-then-d-eq0-clause-reads : goal.returns-then-d-eq0-clause-reads
returns-then-d-eq0-clause-reads c = three_zero _ _ _ c.in_ok-b.ensures.1 c.if-b-lt128.false c.in_ok-b.ensures.0 _ _ c.in_ok-c.ensures.1 c.if-c-lt128.false c.in_ok-c.ensures.0 _ _ c.in_ok-d.ensures.1 c.if-d-eq0.true

pub returns-then-d-ge128-clause-reads : goal.returns-then-d-ge128-clause-reads
returns-then-d-ge128-clause-reads c = four _ _ _ c.in_ok-b.ensures.1 c.if-b-lt128.false c.in_ok-b.ensures.0 _ _ c.in_ok-c.ensures.1 c.if-c-lt128.false c.in_ok-c.ensures.0 _ _ c.in_ok-d.ensures.1 c.if-d-ge128.true

pub returns-clause-reads : goal.returns-clause-reads
returns-clause-reads c = three _ _ _ c.in_ok-b.ensures.1 c.if-b-lt128.false c.in_ok-b.ensures.0 _ _ c.in_ok-c.ensures.1 c.if-c-lt128.false c.in_ok-c.ensures.0 _ _ c.in_ok-d.ensures.1 c.if-d-eq0.false c.if-d-ge128.false
