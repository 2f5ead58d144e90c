use Rattle.kn_make.proofs.Whole.{are_valid}
use Rattle.kn_make.proofs.laws.made_is_valid.Goals as goal

pub returns : goal.returns
returns c = are_valid
