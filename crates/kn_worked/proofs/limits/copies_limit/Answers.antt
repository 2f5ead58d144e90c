use Rattle.kn_worked.proofs.OverLimits as over
use Rattle.kn_worked.proofs.limits.copies_limit.Goals as goal

pub returns-clause-passed : goal.returns-clause-passed
returns-clause-passed c = over.copies_over

pub returns-clause-kept : goal.returns-clause-kept
returns-clause-kept c = over.copies_kept
