-- What is listed, and what is left to list.
use Rattle.std.proofs.Common.{◌≡◌, ◌++◌, ◌+◌, drop}
use Rattle.kn_cob.specs.Reports.{lines_from, failed_from}
use Rattle.kn_cob.proofs.making.failed_states.Given as goal

abbrev pub invariant-loop-node : goal.invariant-loop-node
invariant-loop-node l = l.failed.items ++ failed_from (l.first + l.node) (lines_from l.node (drop l.node l.scenario)) ≡ failed_from l.first (lines_from 0 l.scenario)
