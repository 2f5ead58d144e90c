-- Two plans are equal where their fields are.
use Rattle.kn_plan.proofs.Equal.{by_plan_eq}
use Rattle.kn_plan.proofs.net.NodePlanPartialEq.eq.Goals as goal

pub returns-clause-same : goal.returns-clause-same
returns-clause-same c = by_plan_eq _ _ c.is_same_plan.result c.is_same_plan.ensures
