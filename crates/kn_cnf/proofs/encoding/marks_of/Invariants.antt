-- The nodes from here up are done.
use Rattle.kn_cnf.proofs.Marks.{MarkedDown}
use Rattle.kn_cnf.proofs.encoding.marks_of.Given as goal

abbrev pub invariant-loop-place : goal.invariant-loop-place
invariant-loop-place l = MarkedDown l.aig l.root l.place l.marks.items

abbrev pub decreases-loop-place : goal.decreases-loop-place
decreases-loop-place l = l.place
