-- The states so far, and what is left.
use Rattle.std.proofs.Common.{◌≤◌, ◌+◌, length}
use Rattle.kn_report.specs.Sections.{IsState}
use Rattle.kn_report.specs.Texts.{state_text}
use Rattle.kn_report.proofs.Gathering.{SoFar}
use Rattle.kn_report.proofs.section.read_states.Given as goal

abbrev pub invariant-loop-states : goal.invariant-loop-states
invariant-loop-states l = record {
  read : SoFar state_text IsState l.text l.states.items l.rest;
  few : length l.states.items + length l.rest ≤ length l.text;
}

abbrev pub decreases-loop-states : goal.decreases-loop-states
decreases-loop-states l = length l.rest
