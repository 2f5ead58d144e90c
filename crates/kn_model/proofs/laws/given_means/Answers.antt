use Rattle.kn_model.proofs.AlikeGiven as over
use Rattle.kn_model.proofs.laws.given_means.Goals as goal

pub returns : goal.returns
returns c = over.given_means
