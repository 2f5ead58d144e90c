use Rattle.kn_worked.proofs.OpeningCore as cores
use Rattle.kn_worked.proofs.cores.columns.Goals as goal

pub returns-clause-crossed : goal.returns-clause-crossed
returns-clause-crossed c = cores.crossed

pub returns-clause-unsent : goal.returns-clause-unsent
returns-clause-unsent c = cores.unsent_fails

pub returns-clause-unplaced : goal.returns-clause-unplaced
returns-clause-unplaced c = cores.unplaced
