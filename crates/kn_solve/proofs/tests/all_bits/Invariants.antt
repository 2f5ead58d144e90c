-- The term so far stands.
use Rattle.std.proofs.Common.{◌<◌, length}
use Rattle.kn_solve.proofs.tests.all_bits.Given as goal

abbrev pub invariant-loop-index : goal.invariant-loop-index
invariant-loop-index l = l.whole.index < length l.terms
