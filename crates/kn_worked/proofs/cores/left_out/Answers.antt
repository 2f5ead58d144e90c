use Rattle.kn_worked.proofs.OpeningCore as cores
use Rattle.kn_worked.proofs.cores.left_out.Goals as goal

pub returns : goal.returns
returns c = cores.left_out
