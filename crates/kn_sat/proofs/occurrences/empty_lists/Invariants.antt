-- The lists so far.
use Rattle.kn_sat.specs.Occurrences.{AreWithin}
use Rattle.kn_sat.proofs.occurrences.empty_lists.Given as goal

abbrev pub invariant-loop-place : goal.invariant-loop-place
invariant-loop-place l = AreWithin 0 l.lists.items
