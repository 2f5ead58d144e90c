use Rattle.kn_code.proofs.Whole.{code_again}
use Rattle.kn_code.proofs.laws.reads_back.Goals as goal

pub returns : goal.returns
returns c = code_again
