-- The columns written so far, and those that are left.
use Rattle.std.proofs.Common.{◌≡◌, ◌++◌, string_bytes, flat_map, drop}
use Rattle.kn_report.specs.Forms.{ColumnsFit}
use Rattle.kn_report.specs.Texts.{column_word}
use Rattle.kn_report.specs.Views.{lists_of}
use Rattle.kn_report.proofs.writing.put_columns.Given as goal

abbrev pub invariant-loop-column : goal.invariant-loop-column
invariant-loop-column l = record {
  text : string_bytes l.text ++ flat_map column_word (lists_of (drop l.column-index l.columns)) ≡ string_bytes l.initial.text ++ flat_map column_word (lists_of l.columns);
  fits : ColumnsFit (lists_of (drop l.column-index l.columns)) → ColumnsFit (lists_of l.columns);
}
