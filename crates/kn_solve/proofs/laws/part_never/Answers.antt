use Rattle.kn_solve.proofs.Joining as joining
use Rattle.kn_solve.proofs.laws.part_never.Goals as goal

pub returns : goal.returns
returns c = joining.part_never
