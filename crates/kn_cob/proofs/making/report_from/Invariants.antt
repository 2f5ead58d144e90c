-- What is listed of the scenarios so far.
use Rattle.kn_cob.proofs.Reporting.{Listed}
use Rattle.kn_cob.proofs.making.report_from.Given as goal

abbrev pub invariant-loop-dstate : goal.invariant-loop-dstate
invariant-loop-dstate l = Listed l.net.network l.scenarios l.dstate l.states.items l.dstates.items l.failures.items
