use Rattle.kn_model.proofs.FirstInputs as least
use Rattle.kn_model.proofs.laws.least_is_first.Goals as goal

pub returns : goal.returns
returns c = least.least_is_first
