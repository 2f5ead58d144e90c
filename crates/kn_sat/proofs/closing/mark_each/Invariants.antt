-- The variables so far are marked.
use Rattle.std.proofs.Common.{take}
use Rattle.kn_sat.specs.Resting.{AreMarked}
use Rattle.kn_sat.proofs.closing.mark_each.Given as goal

abbrev pub invariant-loop-l : goal.invariant-loop-l
invariant-loop-l l = AreMarked l.fn.marks (take l.l-index l.clause) l.marks
