-- The trail so far.
use Rattle.std.proofs.Common.{◌≡◌, map}
use Rattle.kn_cnf.specs.Formulas.{items_of}
use Rattle.kn_sat.specs.Trails.{latest, count_open, IsGrown}
use Rattle.kn_sat.proofs.propagation.settle.Given as goal

abbrev pub invariant-settle : goal.invariant-settle
invariant-settle l = record {
  vars : (l.trail).vars ≡ (l.fn.trail).vars;
  grown : IsGrown (map items_of l.clauses) (l.fn.trail).vars (l.fn.trail).entries (l.trail).entries;
}

abbrev pub decreases-settle : goal.decreases-settle
decreases-settle l = count_open (l.fn.trail).vars (latest (l.trail).entries)
