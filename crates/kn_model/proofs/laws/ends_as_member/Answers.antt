use Rattle.kn_model.proofs.Implied as implied
use Rattle.kn_model.proofs.laws.ends_as_member.Goals as goal

pub returns : goal.returns
returns c = implied.run_ends_as_member
