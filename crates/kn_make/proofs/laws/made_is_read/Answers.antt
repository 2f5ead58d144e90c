use Rattle.kn_make.proofs.Whole.{are_read_back}
use Rattle.kn_make.proofs.laws.made_is_read.Goals as goal

pub returns : goal.returns
returns c = are_read_back
