-- The numbers so far are low.
use Rattle.kn_sat.specs.Occurrences.{AreWithin}
use Rattle.kn_sat.proofs.occurrences.Occurrences.new.Given as goal

abbrev pub invariant-loop-number : goal.invariant-loop-number
invariant-loop-number l = record {
  positive : AreWithin l.number l.positive.items;
  negative : AreWithin l.number l.negative.items;
}
