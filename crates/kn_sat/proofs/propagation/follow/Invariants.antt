-- The trail so far.
use Rattle.std.proofs.Common.{◌≡◌, ◌+◌, ◌-◌, length, map}
use Rattle.kn_cnf.specs.Formulas.{items_of}
use Rattle.kn_sat.specs.Trails.{latest, count_open, IsGrown}
use Rattle.kn_sat.proofs.propagation.follow.Given as goal

abbrev pub invariant-loop-head : goal.invariant-loop-head
invariant-loop-head l = record {
  vars : (l.trail).vars ≡ (l.fn.trail).vars;
  grown : IsGrown (map items_of l.clauses) (l.fn.trail).vars (l.fn.trail).entries (l.trail).entries;
}

abbrev pub decreases-loop-head : goal.decreases-loop-head
decreases-loop-head l = (count_open (l.fn.trail).vars (latest (l.trail).entries) + length (l.trail).entries) - l.head
