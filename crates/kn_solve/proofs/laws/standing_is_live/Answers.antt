use Rattle.kn_solve.proofs.Staying as staying
use Rattle.kn_solve.proofs.laws.standing_is_live.Goals as goal

pub returns : goal.returns
returns c = staying.standing_is_live
