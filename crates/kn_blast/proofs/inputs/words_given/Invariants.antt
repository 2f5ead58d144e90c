-- The words of the entries from a place on.
use Rattle.std.proofs.Common.{◌≤◌, length, drop}
use Rattle.kn_blast.specs.Inputs.{IsGivenBy}
use Rattle.kn_blast.proofs.inputs.words_given.Given as goal

abbrev pub invariant-loop-place : goal.invariant-loop-place
invariant-loop-place l = record {
  within : l.place ≤ length l.entries;
  given : IsGivenBy l.bits (drop l.place l.entries) l.given;
}

abbrev pub decreases-loop-place : goal.decreases-loop-place
decreases-loop-place l = l.place
