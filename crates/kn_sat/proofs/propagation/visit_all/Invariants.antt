-- The trail so far: as long as no clause was unit it is the same, and no clause so far is false or unit.
use Rattle.std.proofs.Common.{◌≡◌, ◌<◌, ℕ, List, length, map, true, false}
use Rattle.std.specs.Prelude.{Some, slice_get}
use Rattle.kn_cnf.specs.declared.clauses.Lit.{Lit}
use Rattle.kn_cnf.specs.Formulas.{items_of}
use Rattle.kn_sat.specs.Trails.{latest, IsGrown}
use Rattle.kn_cnf.specs.States.{IsCalm}
use Rattle.kn_sat.proofs.propagation.visit_all.Given as goal

abbrev pub invariant-loop-number : goal.invariant-loop-number
invariant-loop-number l = record {
  vars : (l.trail).vars ≡ (l.fn.trail).vars;
  grown : IsGrown (map items_of l.clauses) (l.fn.trail).vars (l.fn.trail).entries (l.trail).entries;
  calm : l.calm ≡ true → (h : ℕ) (c : List Lit) → h < l.number → slice_get (map items_of l.clauses) h ≡ Some c → IsCalm (latest (l.trail).entries) c;
  more : l.calm ≡ false → length (l.fn.trail).entries < length (l.trail).entries;
}
