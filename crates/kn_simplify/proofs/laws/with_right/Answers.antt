-- A word on the right.
use Rattle.kn_simplify.proofs.Units.{and_zero, and_ones, or_zero}
use Rattle.kn_simplify.proofs.laws.with_right.Goals as goal

pub returns-in-0-y-3 : goal.returns-in-0-y-3
returns-in-0-y-3 c = λ x h. rw (c.in-And.is, c.in-0-y-3.is) (and_zero x)

pub returns-in-65535 : goal.returns-in-65535
returns-in-65535 c = λ x h. rw (c.in-And.is, c.in-65535.is) (and_ones x h)

pub returns-in-0-y-4 : goal.returns-in-0-y-4
returns-in-0-y-4 c = λ x h. rw (c.in-Or.is, c.in-0-y-4.is) (or_zero x h)
