use Rattle.kn_worked.proofs.OpeningCore as cores
use Rattle.kn_worked.proofs.cores.doubled.Goals as goal

pub returns : goal.returns
returns c = cores.doubled
