use Rattle.kn_worked.proofs.OpeningCore as cores
use Rattle.kn_worked.proofs.cores.counts.Goals as goal

pub returns-clause-not_drawn : goal.returns-clause-not_drawn
returns-clause-not_drawn c = cores.not_drawn

pub returns-clause-stopped : goal.returns-clause-stopped
returns-clause-stopped c = cores.stopped_early

pub returns-clause-elsewhere : goal.returns-clause-elsewhere
returns-clause-elsewhere c = cores.stopped_elsewhere
