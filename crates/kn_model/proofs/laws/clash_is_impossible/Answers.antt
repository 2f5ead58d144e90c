use Rattle.kn_model.proofs.Clashing as clashing
use Rattle.kn_model.proofs.laws.clash_is_impossible.Goals as goal

pub returns : goal.returns
returns c = clashing.clash_is_impossible
