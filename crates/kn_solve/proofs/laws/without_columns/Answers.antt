use Rattle.kn_solve.proofs.Staying as staying
use Rattle.kn_solve.proofs.laws.without_columns.Goals as goal

pub returns : goal.returns
returns c = staying.without_columns
