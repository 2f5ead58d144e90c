use Rattle.kn_code.proofs.Whole.{spelled_once}
use Rattle.kn_code.proofs.laws.one_spelling.Goals as goal

pub returns : goal.returns
returns c = spelled_once
