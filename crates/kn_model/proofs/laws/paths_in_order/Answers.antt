use Rattle.kn_model.proofs.Parting as parting
use Rattle.kn_model.proofs.laws.paths_in_order.Goals as goal

pub returns : goal.returns
returns c = parting.paths_in_order
