use Rattle.kn_solve.proofs.Farther as farther
use Rattle.kn_solve.proofs.laws.part_far.Goals as goal

pub returns : goal.returns
returns c = farther.part_far c.words_by_inputs.ensures
