use Rattle.kn_solve.proofs.Joining as joining
use Rattle.kn_solve.proofs.laws.parts_join.Goals as goal

pub returns : goal.returns
returns c = joining.parts_join c.one_list.ensures c.words_by_inputs.ensures
