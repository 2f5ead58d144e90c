-- The literals assigned false so far.
use Rattle.std.proofs.Common.{take, []}
use Rattle.kn_unsat.specs.Assigned.{Assigns}
use Rattle.kn_cnf.specs.Good.{HasBoth, falsified}
use Rattle.kn_unsat.proofs.checking.falsify.Given as goal

abbrev pub invariant-loop-l : goal.invariant-loop-l
invariant-loop-l l = record {
  apart : HasBoth (take l.l-index l.clause) → ⊥;
  assigned : Assigns l.assigned (falsified [] (take l.l-index l.clause));
}
