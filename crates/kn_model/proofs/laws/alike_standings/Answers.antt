use Rattle.kn_model.proofs.AlikeStandings as over
use Rattle.kn_model.proofs.laws.alike_standings.Goals as goal

pub returns : goal.returns
returns c = over.alike_standings
