use Rattle.kn_worked.proofs.Tried as tried
use Rattle.kn_worked.proofs.limits.live.Goals as goal

pub returns-clause-possible : goal.returns-clause-possible
returns-clause-possible c = tried.possible_is_live
