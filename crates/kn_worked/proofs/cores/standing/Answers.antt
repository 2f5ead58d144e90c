use Rattle.kn_worked.proofs.OpeningCore as cores
use Rattle.kn_worked.proofs.cores.standing.Goals as goal

pub returns-clause-not_least : goal.returns-clause-not_least
returns-clause-not_least c = cores.not_least

pub returns-clause-marked : goal.returns-clause-marked
returns-clause-marked c = cores.marked
