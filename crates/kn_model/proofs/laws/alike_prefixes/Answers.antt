use Rattle.kn_model.proofs.AlikePrefixes as over
use Rattle.kn_model.proofs.laws.alike_prefixes.Goals as goal

pub returns : goal.returns
returns c = over.alike_prefixes
