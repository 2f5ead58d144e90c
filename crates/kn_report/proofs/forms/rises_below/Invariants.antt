-- What is left decides.
use Rattle.std.proofs.Common.{◌≡◌, drop}
use Rattle.kn_report.specs.Forms.{rises_from}
use Rattle.kn_report.proofs.forms.rises_below.Given as goal

abbrev pub invariant-loop-number : goal.invariant-loop-number
invariant-loop-number l = rises_from 0 l.count l.numbers ≡ rises_from l.low l.count (drop l.number-index l.numbers)
