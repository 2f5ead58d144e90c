-- What is left decides.
use Rattle.std.proofs.Common.{◌≡◌, drop}
use Rattle.kn_report.specs.Forms.{all_columns}
use Rattle.kn_report.specs.Views.{lists_of}
use Rattle.kn_report.proofs.forms.are_all_columns.Given as goal

abbrev pub invariant-loop-column : goal.invariant-loop-column
invariant-loop-column l = all_columns l.states (lists_of l.lists) ≡ all_columns l.states (lists_of (drop l.column-index l.lists))
