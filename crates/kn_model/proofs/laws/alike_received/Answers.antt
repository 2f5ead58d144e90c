use Rattle.kn_model.proofs.AlikeGiven as over
use Rattle.kn_model.proofs.laws.alike_received.Goals as goal

pub returns : goal.returns
returns c = over.alike_received
