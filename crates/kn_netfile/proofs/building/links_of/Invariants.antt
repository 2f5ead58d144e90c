-- The links so far, in front of those of the tables that are left.
use Rattle.std.proofs.Common.{◌≡◌, ◌++◌, map, drop}
use Rattle.toml.specs.View.{table_view}
use Rattle.kn_netfile.specs.Tables.{links_of}
use Rattle.kn_netfile.proofs.building.links_of.Given as goal

abbrev pub invariant-loop-table : goal.invariant-loop-table
invariant-loop-table l = l.links.items ++ links_of l.nodes (map (λ t. table_view t.now) (drop l.table-index l.tables)) ≡ links_of l.nodes (map (λ t. table_view t.now) l.tables)
