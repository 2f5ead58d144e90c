-- One more column.
use Rattle.kn_built.proofs.BuiltLaws.{extends-twice}
use Rattle.kn_solve.specs.Formulas.{column_of, ColumnStands}
use Rattle.kn_solve.specs.Wholes.{with_column}
use Rattle.kn_solve.proofs.Making.{taken_item, column_made_kept, each_item}
use Rattle.kn_solve.proofs.whole.with_columns.Goals as goal

pub loop-column-preserved : goal.loop-column-preserved
loop-column-preserved c =
    let old = c.args.terms.now in
    let mid = c.loop-column.terms in
    let css = c.args.columns.now in
    let i = c.loop-column.column-index in
    let so_far = c.loop-column.invariant in
    record {
      term = taken_item with_column (column_of old) css i c.column-item.result _ _ _ _ c.column-item.is so_far.term c.loop-column-test.true (column_made_kept old mid c.column-item.result _ _ _ so_far.grows c.deref.ensures.value (each_item (ColumnStands old) css i c.column-item.result _ c.column-item.is c.requires.columns c.loop-column-test.true) c.in_ok-whole.ensures.term);
      stands = c.in_ok-whole.ensures.stands;
      grows = extends-twice old mid c.with_column.new.terms so_far.grows c.in_ok-whole.ensures.grows;
    }
