use Rattle.kn_model.proofs.AlikeTerms as over
use Rattle.kn_model.proofs.laws.alike_runs.Goals as goal

pub returns : goal.returns
returns c = over.alike_runs
