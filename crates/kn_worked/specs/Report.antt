-- The report of the least network.
use Rattle.std.specs.Prelude.{[], ◌∷◌}
use Rattle.kn_code.specs.declared.program.Instr.TheVariants as instrs
use Rattle.kn_model.specs.Nodes.{Halted}
use Rattle.kn_model.specs.Nets.{Network}
use Rattle.kn_cond.specs.declared.standing.Standing.TheVariants.{Inputs}
use Rattle.kn_model.specs.Reports.{Report, StateLine, Sds, Gives}
use Rattle.kn_worked.specs.Networks.{one_node}

abbrev pub least_net : Network
least_net = one_node 512 (instrs.Halt ∷ [])

abbrev pub least_line : StateLine
least_line = record { node = 0; trace = []; outcome = Halted; standing = Inputs [] }

abbrev pub least_report : Report
least_report = record { mapping = Sds; ticks = 1; nodes = 1; states = least_line ∷ []; dstates = ((0 ∷ []) ∷ []) ∷ []; failures = [] }

abbrev pub LeastGiven : Type 0
LeastGiven = Gives least_report least_net
