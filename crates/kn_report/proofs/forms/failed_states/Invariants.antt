-- What is found, and what is left.
use Rattle.std.proofs.Common.{◌≡◌, ◌++◌, drop}
use Rattle.kn_report.specs.Forms.{failed_from}
use Rattle.kn_report.proofs.forms.failed_states.Given as goal

abbrev pub invariant-loop-number : goal.invariant-loop-number
invariant-loop-number l = l.failed.items ++ failed_from l.number (drop l.number l.states) ≡ failed_from 0 l.states
