use Rattle.kn_model.proofs.Rising as rising
use Rattle.kn_model.proofs.laws.names_rise.Goals as goal

pub returns : goal.returns
returns c = rising.names_rise
