use Rattle.kn_model.proofs.JoinedQuery as joining
use Rattle.kn_model.proofs.laws.joined_is_one.Goals as goal

pub returns : goal.returns
returns c = joining.joined_query
