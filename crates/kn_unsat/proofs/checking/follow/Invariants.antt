-- What is left to refute, under what is assigned so far.
use Rattle.std.proofs.Common.{List, drop}
use Rattle.kn_cnf.specs.declared.clauses.Lit.{Lit}
use Rattle.kn_unsat.specs.Assigned.{Assigns}
use Rattle.kn_cnf.specs.Good.{Refutes, before}
use Rattle.kn_unsat.proofs.checking.follow.Given as goal

abbrev pub invariant-loop-place : goal.invariant-loop-place
invariant-loop-place l = (ls : List Lit) → Assigns l.fn.assigned ls → (now : List Lit) × Assigns l.assigned now
    × (Refutes (before l.clauses l.earlier) ls l.hints → Refutes (before l.clauses l.earlier) now (drop l.place l.hints)) × (Refutes (before l.clauses l.earlier) now (drop l.place l.hints) → Refutes (before l.clauses l.earlier) ls l.hints)
