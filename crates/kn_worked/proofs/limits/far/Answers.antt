use Rattle.kn_worked.proofs.Tried as tried
use Rattle.kn_worked.proofs.limits.far.Goals as goal

pub returns-clause-at_bound : goal.returns-clause-at_bound
returns-clause-at_bound c = tried.far_at_bound

pub returns-clause-above_bound : goal.returns-clause-above_bound
returns-clause-above_bound c = tried.near_above_bound
