-- The fault so far, before that of the inputs that are left.
use Rattle.std.proofs.Common.{◌≡◌, None, option_map, map, drop}
use Rattle.toml.specs.View.{table_view}
use Rattle.kn_netfile.specs.Faults.{lower}
use Rattle.kn_netfile.specs.Tables.{input_at, inputs_fault}
use Rattle.kn_netfile.proofs.inputs.inputs_fault.Given as goal

abbrev pub invariant-loop-index : goal.invariant-loop-index
invariant-loop-index l =
    lower l.fault (inputs_fault l.nodes l.index (option_map (λ t. input_at l.nodes (table_view t.now)) l.previous) (map (λ t. table_view t.now) (drop l.index l.tables))) ≡ inputs_fault l.nodes 0 None (map (λ t. table_view t.now) l.tables)
