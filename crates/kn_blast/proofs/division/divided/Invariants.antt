-- Quotient and rest so far.
use Rattle.kn_blast.specs.Spelling.{Grows}
use Rattle.kn_blast.proofs.Dividing.{Divides}
use Rattle.kn_blast.proofs.division.divided.Given as goal

abbrev pub invariant-loop-step : goal.invariant-loop-step
invariant-loop-step l = record {
  grows : Grows l.fn.aig l.aig;
  divides : Divides l.fn.aig l.aig l.xs l.ys l.quotient.items l.rest.items l.step;
}
