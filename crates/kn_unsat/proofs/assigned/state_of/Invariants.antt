-- How the literals so far stand.
use Rattle.std.proofs.Common.{List, take}
use Rattle.kn_cnf.specs.declared.clauses.Lit.{Lit}
use Rattle.kn_cnf.specs.States.{IsState}
use Rattle.kn_unsat.specs.Assigned.{Assigns}
use Rattle.kn_unsat.proofs.assigned.state_of.Given as goal

abbrev pub invariant-loop-l : goal.invariant-loop-l
invariant-loop-l l = (ls : List Lit) → Assigns l.assigned ls → IsState ls (take l.l-index l.clause) l.state
