-- The clauses so far.
use Rattle.std.proofs.Common.{map}
use Rattle.kn_cnf.specs.Formulas.{items_of, AreBelow}
use Rattle.kn_sat.proofs.tests.of_triples.Given as goal

abbrev pub invariant-loop-triple : goal.invariant-loop-triple
invariant-loop-triple l = AreBelow l.vars (map items_of l.clauses.items)
