-- Two machines are equal where their fields are.
use Rattle.kn_node.proofs.Equal.{by_machine_eq}
use Rattle.kn_node.proofs.machine.MachinePartialEq.eq.Goals as goal

pub returns-clause-same : goal.returns-clause-same
returns-clause-same c = by_machine_eq _ _ c.is_same_machine.result c.is_same_machine.ensures
