-- The lists so far.
use Rattle.std.proofs.Common.{◌+◌}
use Rattle.kn_sat.specs.Occurrences.{AreWithin}
use Rattle.kn_sat.proofs.occurrences.put_clause.Given as goal

abbrev pub invariant-loop-l : goal.invariant-loop-l
invariant-loop-l l = record {
  positive : AreWithin l.number l.fn.positive.items → AreWithin (l.number + 1) l.positive.items;
  negative : AreWithin l.number l.fn.negative.items → AreWithin (l.number + 1) l.negative.items;
}
