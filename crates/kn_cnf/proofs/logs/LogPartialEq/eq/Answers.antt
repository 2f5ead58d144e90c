-- Two logs are equal exactly where `==` says so.
use Rattle.std.proofs.lemmas.Slice.Eq.{slice_eq-Decides}
use Rattle.kn_cnf.proofs.Equal.{steps_decide}
use Rattle.kn_cnf.proofs.logs.LogPartialEq.eq.Goals as goal

pub returns-clause-same : goal.returns-clause-same
returns-clause-same c = rw (← c.self.view_is, ← c.other.view_is) (slice_eq-Decides steps_decide _ _ c.eq.result c.eq.ensures)
