use Rattle.kn_solve.proofs.Staying as staying
use Rattle.kn_solve.proofs.laws.least_stays.Goals as goal

pub returns : goal.returns
returns c = staying.least_stays c.one_list.ensures c.words_by_inputs.ensures
