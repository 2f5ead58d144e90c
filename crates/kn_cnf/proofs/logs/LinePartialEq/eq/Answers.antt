-- Two lines are equal exactly where `==` says so.
use Rattle.kn_cnf.proofs.Equal.{step_decides}
use Rattle.kn_cnf.proofs.logs.LinePartialEq.eq.Goals as goal

pub returns-clause-same : goal.returns-clause-same
returns-clause-same c = rw (← c.self.view_is, ← c.other.view_is) (step_decides _ _ c.eq.result c.eq-2.result c.both.result c.eq.ensures c.eq-2.ensures c.both.ensures)
