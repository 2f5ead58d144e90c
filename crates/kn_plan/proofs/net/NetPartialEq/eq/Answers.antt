-- Two networks are equal where their parts are.
use Rattle.kn_plan.proofs.Equal.{by_file_eq}
use Rattle.kn_plan.proofs.net.NetPartialEq.eq.Goals as goal

pub returns-clause-same : goal.returns-clause-same
returns-clause-same c = by_file_eq _ _ c.is_same_net.result c.is_same_net.ensures
