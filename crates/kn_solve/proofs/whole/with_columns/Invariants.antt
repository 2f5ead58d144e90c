-- The columns so far are taken in.
use Rattle.std.proofs.Common.{◌≡◌, ◌<◌, drop, length, map}
use Rattle.kn_built.specs.Built.{Extends}
use Rattle.kn_term.specs.Nodes.{term_at}
use Rattle.kn_solve.specs.Formulas.{column_of}
use Rattle.kn_solve.specs.Wholes.{with_columns}
use Rattle.kn_solve.proofs.whole.with_columns.Given as goal

abbrev pub invariant-loop-column : goal.invariant-loop-column
invariant-loop-column l = record {
  term : with_columns (map (column_of l.fn.terms) (drop l.column-index l.columns)) (term_at l.terms l.whole.index) ≡ with_columns (map (column_of l.fn.terms) l.columns) (term_at l.fn.terms l.fn.then.index);
  stands : l.whole.index < length l.terms;
  grows : Extends l.fn.terms l.terms;
}
