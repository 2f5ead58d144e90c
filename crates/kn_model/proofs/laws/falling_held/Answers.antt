use Rattle.kn_model.proofs.Falling as falling
use Rattle.kn_model.proofs.laws.falling_held.Goals as goal

pub returns : goal.returns
returns c = falling.falling_held
