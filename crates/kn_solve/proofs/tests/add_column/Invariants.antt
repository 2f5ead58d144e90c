-- There is a column.
use Rattle.std.proofs.Common.{◌<◌, length}
use Rattle.kn_solve.proofs.tests.add_column.Given as goal

abbrev pub invariant-loop-claim : goal.invariant-loop-claim
invariant-loop-claim l = 0 < length l.f.columns
