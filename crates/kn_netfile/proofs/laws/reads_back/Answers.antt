use Rattle.kn_netfile.proofs.Back.{text_back}
use Rattle.kn_netfile.proofs.laws.reads_back.Goals as goal

pub returns : goal.returns
returns c = text_back
