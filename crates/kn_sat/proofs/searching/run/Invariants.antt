-- The lines and the trail stand, and as many assignments as conflicts are refuted.
use Rattle.std.proofs.Common.{◌≡◌, ◌+◌, ◌-◌, ◌*◌, ◌<◌, ◌≤◌, map}
use Rattle.kn_cnf.specs.Formulas.{items_of}
use Rattle.kn_sat.specs.Trails.{latest, count_open}
use Rattle.kn_sat.specs.Propagating.{AreAssigned, Stands}
use Rattle.kn_sat.specs.Order.{spelled}
use Rattle.kn_sat.proofs.searching.run.Given as goal

abbrev pub invariant-search : goal.invariant-search
invariant-search l = record {
  vars : (l.trail).vars ≡ l.vars;
  stands : Stands l.inputs (map items_of l.clauses) l.lines.items (l.trail).entries;
  counted : l.leaves ≤ spelled l.inputs (latest (l.trail).entries);
  next : AreAssigned l.next (latest (l.trail).entries);
  left : l.leaves < l.budget;
}

abbrev pub decreases-search : goal.decreases-search
decreases-search l = (l.budget - l.leaves) * (l.vars + 1) + count_open l.vars (latest (l.trail).entries)
