-- What is left decides.
use Rattle.std.proofs.Common.{◌≡◌, drop}
use Rattle.kn_report.specs.Forms.{takes}
use Rattle.kn_report.specs.Views.{lists_of}
use Rattle.kn_report.proofs.forms.takes_each.Given as goal

abbrev pub invariant-loop-place : goal.invariant-loop-place
invariant-loop-place l = takes (lists_of l.lists) l.pick ≡ takes (lists_of (drop l.place l.lists)) (drop l.place l.pick)
