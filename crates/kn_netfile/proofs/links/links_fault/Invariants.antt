-- The fault so far, before that of the links that are left, and how many links of each node were gone over.
use Rattle.std.proofs.Common.{◌≡◌, ◌≤◌, [], length, map, take, drop}
use Rattle.toml.specs.View.{table_view}
use Rattle.kn_netfile.specs.Faults.{lower}
use Rattle.kn_netfile.specs.Tables.{links_of, links_fault}
use Rattle.kn_netfile.proofs.Walks.{AreCounts}
use Rattle.kn_netfile.proofs.links.links_fault.Given as goal

abbrev pub invariant-loop-index : goal.invariant-loop-index
invariant-loop-index l = record {
  some : 1 ≤ length l.counts.items;
  each : l.nodes ≤ length l.counts.items;
  counts : AreCounts l.counts.items (links_of l.nodes (map (λ t. table_view t.now) (take l.index l.tables))) l.index;
  fault : lower l.fault (links_fault l.nodes l.index (links_of l.nodes (map (λ t. table_view t.now) (take l.index l.tables))) (map (λ t. table_view t.now) (drop l.index l.tables))) ≡ links_fault l.nodes 0 [] (map (λ t. table_view t.now) l.tables);
}
