use Rattle.kn_worked.proofs.OpeningCore as cores
use Rattle.kn_worked.proofs.cores.opening_stands.Goals as goal

pub returns : goal.returns
returns c = cores.opening_stands
