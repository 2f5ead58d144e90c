-- What is left to check, behind the lines so far.
use Rattle.std.proofs.Common.{drop, take}
use Rattle.kn_cnf.specs.Good.{AreGood, before}
use Rattle.kn_unsat.proofs.Hints.{Both}
use Rattle.kn_unsat.proofs.checking.check.Given as goal

abbrev pub invariant-loop-place : goal.invariant-loop-place
invariant-loop-place l = Both (AreGood l.cnf.clauses l.lines) (AreGood (before l.cnf-inside.clauses.items (take l.place l.lines)) (drop l.place l.lines))
