use Rattle.kn_model.proofs.Implied as implied
use Rattle.kn_model.proofs.laws.condition_is_own.Goals as goal

pub returns : goal.returns
returns c = λ net a t s good member. implied.condition_is_own a net t s good member
