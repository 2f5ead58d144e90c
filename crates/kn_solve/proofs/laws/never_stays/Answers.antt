use Rattle.kn_solve.proofs.Staying as staying
use Rattle.kn_solve.proofs.laws.never_stays.Goals as goal

pub returns : goal.returns
returns c = staying.never_stays
