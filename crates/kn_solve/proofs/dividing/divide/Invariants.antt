-- The literals are in the part and the rest.
use Rattle.std.proofs.Common.{◌++◌, length}
use Rattle.kn_cond.specs.Meanings.{StandIn}
use Rattle.kn_solve.specs.Parts.{IsSplit}
use Rattle.kn_solve.proofs.dividing.divide.Given as goal

abbrev pub invariant-grow : goal.invariant-grow
invariant-grow l = record {
  split : IsSplit (l.fn.earlier ++ l.fn.later) l.fn.earlier l.part l.rest;
  part : StandIn l.terms l.part;
  rest : StandIn l.terms l.rest;
}

abbrev pub decreases-grow : goal.decreases-grow
decreases-grow l = length l.rest
