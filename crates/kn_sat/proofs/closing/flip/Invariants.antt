-- What was taken back so far, and that the place was not reached.
use Rattle.std.proofs.Common.{◌≡◌, ◌<◌, ◌++◌, List, length}
use Rattle.kn_sat.specs.declared.trail.Assigned.{Assigned}
use Rattle.kn_sat.proofs.closing.flip.Given as goal

abbrev pub invariant-loop-entry : goal.invariant-loop-entry
invariant-loop-entry l = record {
  vars : (l.trail).vars ≡ (l.fn.trail).vars;
  taken : (back : List Assigned) × ((l.fn.trail).entries ≡ (l.trail).entries ++ back);
  above : l.place < length (l.fn.trail).entries → l.place < length (l.trail).entries;
}

abbrev pub decreases-loop-entry : goal.decreases-loop-entry
decreases-loop-entry l = length (l.trail).entries
