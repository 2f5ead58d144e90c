use Rattle.kn_model.proofs.Beginning as beginning
use Rattle.kn_model.proofs.laws.beginning_implied.Goals as goal

pub returns : goal.returns
returns c = λ net a n h more i. beginning.beginning_implied a net n h more i
