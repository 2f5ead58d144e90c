-- 0 comes in.
use Rattle.kn_blast.proofs.operators.shifted_left.Goals as goal

pub returns-clause-word : goal.returns-clause-word
returns-clause-word c = c.shifted.ensures.word
