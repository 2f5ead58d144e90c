use Rattle.kn_model.proofs.AlikeTerms as over
use Rattle.kn_model.proofs.laws.given_of_alike.Goals as goal

pub returns : goal.returns
returns c = over.given_of_alike
