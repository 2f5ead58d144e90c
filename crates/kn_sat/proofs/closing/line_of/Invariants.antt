-- The chain of what the conflict rests on, so far.
use Rattle.std.proofs.Common.{◌≡◌, ◌≤◌, ℕ, List, [], length}
use Rattle.std.specs.Prelude.{Some, slice_get}
use Rattle.kn_cnf.specs.declared.clauses.Lit.{Lit}
use Rattle.kn_cnf.specs.Units.{IsFalse}
use Rattle.kn_cnf.specs.Good.{before}
use Rattle.kn_sat.specs.Trails.{latest, IsTrail}
use Rattle.kn_sat.specs.Resting.{Rests}
use Rattle.kn_sat.proofs.closing.line_of.Given as goal

abbrev pub invariant-walk : goal.invariant-walk
invariant-walk l = record {
  inside : l.place ≤ length l.entries;
  rests : (n : ℕ) (c : List Lit) → IsTrail (before l.clauses l.lines) n [] l.entries → slice_get (before l.clauses l.lines) l.conflict ≡ Some c → IsFalse (latest l.entries) c
      → Rests (before l.clauses l.lines) l.entries c l.conflict l.place l.marks l.clause.items l.hints.items l.latest;
}

abbrev pub decreases-walk : goal.decreases-walk
decreases-walk l = l.place
