-- So many terms stand.
use Rattle.std.proofs.Common.{◌≤◌, length}
use Rattle.kn_solve.proofs.dividing.count_of.Given as goal

abbrev pub invariant-loop-literal : goal.invariant-loop-literal
invariant-loop-literal l = l.count ≤ length l.terms
