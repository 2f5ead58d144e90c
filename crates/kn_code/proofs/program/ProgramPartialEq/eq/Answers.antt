use Rattle.kn_code.proofs.Equal.{same_handlers, other_instrs}
use Rattle.kn_code.proofs.program.ProgramPartialEq.eq.Goals as goal

pub returns-then-eq-clause-same : goal.returns-then-eq-clause-same
returns-then-eq-clause-same c = rw (← c.self.view_is, ← c.other.view_is) (same_handlers _ _ c.eq.result c.eq-then-eq.result (rw (c.as_slice.ensures.value, c.as_slice-2.ensures.value) at c.eq.ensures) c.if-eq.true c.eq-then-eq.ensures)

pub returns-else-eq-clause-same : goal.returns-else-eq-clause-same
returns-else-eq-clause-same c = rw (← c.self.view_is, ← c.other.view_is) (other_instrs _ _ c.eq.result (rw (c.as_slice.ensures.value, c.as_slice-2.ensures.value) at c.eq.ensures) c.if-eq.false)
