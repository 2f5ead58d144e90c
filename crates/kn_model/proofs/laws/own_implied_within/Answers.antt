use Rattle.kn_model.proofs.Implied as implied
use Rattle.kn_model.proofs.laws.own_implied_within.Goals as goal

pub returns : goal.returns
returns c = λ net a t n s y good m d h. implied.met_own_implied a net t n s y good m d h
