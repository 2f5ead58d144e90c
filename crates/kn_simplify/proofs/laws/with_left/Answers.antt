-- A word on the left.
use Rattle.kn_simplify.proofs.Units.{zero_and, ones_and, zero_or}
use Rattle.kn_simplify.proofs.laws.with_left.Goals as goal

pub returns-in-0-x-2 : goal.returns-in-0-x-2
returns-in-0-x-2 c = λ y h. rw (c.in-And.is, c.in-0-x-2.is) (zero_and y)

pub returns-in-65535 : goal.returns-in-65535
returns-in-65535 c = λ y h. rw (c.in-And.is, c.in-65535.is) (ones_and y h)

pub returns-in-0-x-3 : goal.returns-in-0-x-3
returns-in-0-x-3 c = λ y h. rw (c.in-Or.is, c.in-0-x-3.is) (zero_or y h)
