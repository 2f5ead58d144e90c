-- One operand on both sides.
use Rattle.kn_simplify.proofs.Units.{and_same, or_same, urem_same}
use Rattle.kn_simplify.proofs.laws.of_itself.Goals as goal

pub returns-in-And : goal.returns-in-And
returns-in-And c = λ x h. rw c.in-And.is (and_same x h)

pub returns-in-Or : goal.returns-in-Or
returns-in-Or c = λ x h. rw c.in-Or.is (or_same x h)

pub returns-in-Urem : goal.returns-in-Urem
returns-in-Urem c = λ x h. rw c.in-Urem.is (urem_same x)
