-- The literals so far are low.
use Rattle.std.proofs.Common.{◌<◌}
use Rattle.std.specs.List.{AllByRecursion}
use Rattle.kn_cnf.specs.declared.clauses.Lit.{Lit}
use Rattle.kn_sat.proofs.tests.clause_of.Given as goal

abbrev pub invariant-loop-l : goal.invariant-loop-l
invariant-loop-l l = AllByRecursion (λ (m : Lit). m.var < l.vars) l.clause.items
