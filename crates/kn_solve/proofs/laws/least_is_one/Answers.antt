use Rattle.kn_solve.proofs.Staying as staying
use Rattle.kn_solve.proofs.laws.least_is_one.Goals as goal

pub returns : goal.returns
returns c = staying.least_is_one
