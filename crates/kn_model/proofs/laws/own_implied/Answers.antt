use Rattle.kn_model.proofs.Implied as implied
use Rattle.kn_model.proofs.laws.own_implied.Goals as goal

pub returns : goal.returns
returns c = λ net a t s y good member there h. implied.own_implied a net t s y good member there h
