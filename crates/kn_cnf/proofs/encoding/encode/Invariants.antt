-- The clauses of the nodes so far.
use Rattle.std.specs.Prelude.{map}
use Rattle.kn_cnf.specs.Formulas.{items_of}
use Rattle.kn_cnf.specs.SoFar.{Encoded, Spreads}
use Rattle.kn_cnf.proofs.encoding.encode.Given as goal

abbrev pub invariant-loop-place : goal.invariant-loop-place
invariant-loop-place l = record {
  encoded : Encoded l.aig l.marks.items l.place l.names.items l.vars (map items_of l.clauses.items);
  spreads : Spreads l.aig l.marks.items l.place l.names.items l.vars (map items_of l.clauses.items);
}
