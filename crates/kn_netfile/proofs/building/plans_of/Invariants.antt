-- The plans so far, in front of those of the tables that are left.
use Rattle.std.proofs.Common.{◌≡◌, ◌++◌, map, drop}
use Rattle.toml.specs.View.{table_view}
use Rattle.kn_netfile.specs.Tables.{plans_of}
use Rattle.kn_netfile.proofs.building.plans_of.Given as goal

abbrev pub invariant-loop-table : goal.invariant-loop-table
invariant-loop-table l = l.plans.items ++ plans_of l.names (map (λ t. table_view t.now) (drop l.table-index l.tables)) ≡ plans_of l.names (map (λ t. table_view t.now) l.tables)
