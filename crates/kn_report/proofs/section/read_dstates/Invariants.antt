-- The dstates so far, and what is left.
use Rattle.std.proofs.Common.{◌≤◌, ◌+◌, length}
use Rattle.kn_report.specs.Sections.{IsDstate}
use Rattle.kn_report.specs.Texts.{dstate_text}
use Rattle.kn_report.proofs.Gathering.{SoFar}
use Rattle.kn_report.proofs.section.read_dstates.Given as goal

abbrev pub invariant-loop-dstates : goal.invariant-loop-dstates
invariant-loop-dstates l = record {
  read : SoFar dstate_text (IsDstate l.states l.nodes) l.text l.dstates.items l.rest;
  few : length l.dstates.items + length l.rest ≤ length l.text;
}

abbrev pub decreases-loop-dstates : goal.decreases-loop-dstates
decreases-loop-dstates l = length l.rest
