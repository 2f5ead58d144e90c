use Rattle.kn_worked.proofs.OverLimits as over
use Rattle.kn_worked.proofs.limits.records_limit.Goals as goal

pub returns-clause-kept : goal.returns-clause-kept
returns-clause-kept c = over.records_kept

pub returns-clause-passed : goal.returns-clause-passed
returns-clause-passed c = over.records_over
