-- The trail so far.
use Rattle.std.proofs.Common.{◌≡◌, map}
use Rattle.kn_cnf.specs.Formulas.{items_of}
use Rattle.kn_sat.specs.Trails.{IsGrown}
use Rattle.kn_sat.proofs.propagation.visit_each.Given as goal

abbrev pub invariant-loop-number : goal.invariant-loop-number
invariant-loop-number l = record {
  vars : (l.trail).vars ≡ (l.fn.trail).vars;
  grown : IsGrown (map items_of l.clauses) (l.fn.trail).vars (l.fn.trail).entries (l.trail).entries;
}
