use Rattle.kn_model.proofs.LeastInputs as least
use Rattle.kn_model.proofs.laws.forced_is_least.Goals as goal

pub returns : goal.returns
returns c = least.forced_is_least
