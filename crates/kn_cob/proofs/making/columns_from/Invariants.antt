-- What is listed, and what is left to list.
use Rattle.std.proofs.Common.{◌≡◌, ◌++◌, ◌+◌, ◌-◌}
use Rattle.kn_model.specs.Reports.{singles}
use Rattle.kn_report.specs.Views.{lists_of}
use Rattle.kn_cob.proofs.making.columns_from.Given as goal

abbrev pub invariant-loop-place : goal.invariant-loop-place
invariant-loop-place l = lists_of l.lists.items ++ singles (l.count - l.place) (l.first + l.place) ≡ singles l.count l.first
