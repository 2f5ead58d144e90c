-- What is listed, and what is left to list.
use Rattle.std.proofs.Common.{◌≡◌, ◌++◌, drop}
use Rattle.kn_cob.specs.Reports.{lines_from}
use Rattle.kn_cob.proofs.making.put_lines.Given as goal

abbrev pub invariant-loop-node : goal.invariant-loop-node
invariant-loop-node l = l.lines.items ++ lines_from l.node (drop l.node l.scenario) ≡ l.initial.lines.items ++ lines_from 0 l.scenario
