use Rattle.kn_model.proofs.Swapping as swapping
use Rattle.kn_model.proofs.laws.one_and_others.Goals as goal

pub returns : goal.returns
returns c = swapping.one_and_others
