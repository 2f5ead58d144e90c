-- What the parts of a report are in the definitions.
use Rattle.std.specs.Prelude.{ℕ, List, map, Vec}
use Rattle.std.specs.declared.alloc.Global.{Global}
use Rattle.kn_node.specs.declared.machine.FailKind.{FailKind}
use Rattle.kn_node.specs.declared.machine.FailKind.TheVariants as kinds
use Rattle.kn_node.specs.declared.machine.Outcome.{Outcome}
use Rattle.kn_node.specs.declared.machine.Outcome.TheVariants as outcomes
use Rattle.kn_model.specs.Nodes.{FailKind as Kinds, Assert as on_zero, Bounds as out_of_range, Fuel as spent, Outcome as Outcomes, Running as runs, Halted as halts, Failed as fails}
use Rattle.kn_model.specs.Reports.{Mapping as Mappings, Sds as sds, Cob as cob, Reach as Reaches, At as at, Undecided as undecided, Nowhere as nowhere}
use Rattle.kn_report.specs.declared.report.Mapping.{Mapping}
use Rattle.kn_report.specs.declared.report.Mapping.TheVariants as mappings
use Rattle.kn_report.specs.declared.report.Reached.{Reached}
use Rattle.kn_report.specs.declared.report.Reached.TheVariants as reaches

abbrev pub mapping_of : Mapping → Mappings
mapping_of mappings.Sds = sds
mapping_of mappings.Cob = cob

abbrev pub kind_of : FailKind → Kinds
kind_of kinds.Assert = on_zero
kind_of kinds.Bounds = out_of_range
kind_of kinds.Fuel = spent

abbrev pub outcome_of : Outcome → Outcomes
outcome_of outcomes.Running = runs
outcome_of outcomes.Halted = halts
outcome_of (outcomes.Failed kind pc tick) = fails (kind_of kind) pc tick

abbrev pub reach_of : Reached → Reaches
reach_of (reaches.At d pick a) = at d pick.items a
reach_of reaches.Open = undecided
reach_of reaches.Nowhere = nowhere

-- columns as lists of numbers
abbrev pub lists_of : List (Vec ℕ Global) → List (List ℕ)
lists_of columns = map (λ (column : Vec ℕ Global). column.items) columns
