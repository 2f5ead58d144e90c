-- The clauses copied so far.
use Rattle.std.proofs.Common.{◌≡◌, map, take}
use Rattle.kn_cnf.specs.Formulas.{items_of}
use Rattle.kn_cnf.proofs.clauses.copied.Given as goal

abbrev pub invariant-loop-clause : goal.invariant-loop-clause
invariant-loop-clause l = map items_of l.copy.items ≡ map items_of (take l.clause-index l.clauses)
