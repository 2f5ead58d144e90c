-- The fault so far, before that of the nodes that are left.
use Rattle.std.proofs.Common.{◌≡◌, map, drop}
use Rattle.toml.specs.View.{table_view}
use Rattle.kn_netfile.specs.Faults.{lower}
use Rattle.kn_netfile.specs.Tables.{nodes_fault}
use Rattle.kn_netfile.proofs.nodes.nodes_fault.Given as goal

abbrev pub invariant-loop-index : goal.invariant-loop-index
invariant-loop-index l = lower l.fault (nodes_fault l.names l.index (map (λ t. table_view t.now) (drop l.index l.tables))) ≡ nodes_fault l.names 0 (map (λ t. table_view t.now) l.tables)
