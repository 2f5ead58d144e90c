use Rattle.kn_step.proofs.OverLimit.{over_means}
use Rattle.kn_step.proofs.laws.over_means.Goals as goal

pub returns : goal.returns
returns c = over_means
