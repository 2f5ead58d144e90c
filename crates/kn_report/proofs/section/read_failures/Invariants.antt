-- The failures so far, and what is left.
use Rattle.std.proofs.Common.{◌≡◌, ◌≤◌, ◌+◌, length}
use Rattle.kn_report.specs.Sections.{IsFailure, failure_at}
use Rattle.kn_report.proofs.Gathering.{SoFar}
use Rattle.kn_report.proofs.section.read_failures.Given as goal

abbrev pub invariant-loop-state : goal.invariant-loop-state
invariant-loop-state l = record {
  read : SoFar failure_at (IsFailure l.dstates l.failed) l.text l.failures.items l.rest;
  few : length l.failures.items + length l.rest ≤ length l.text;
  count : length l.failures.items ≡ l.state-index;
}
