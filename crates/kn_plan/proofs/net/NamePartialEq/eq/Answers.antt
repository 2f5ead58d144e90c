-- Two names are equal where their bytes are.
use Rattle.kn_plan.proofs.Equal.{by_name_eq}
use Rattle.kn_plan.proofs.net.NamePartialEq.eq.Goals as goal

pub returns-clause-same : goal.returns-clause-same
returns-clause-same c = rw (← c.self.view_is, ← c.other.view_is) (by_name_eq _ _ c.eq.result c.eq.ensures)
