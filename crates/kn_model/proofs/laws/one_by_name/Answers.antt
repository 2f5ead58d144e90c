use Rattle.kn_model.proofs.Named as named
use Rattle.kn_model.proofs.laws.one_by_name.Goals as goal

pub returns : goal.returns
returns c = named.one_by_name
