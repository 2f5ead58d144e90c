-- The tables so far, in front of those of the elements that are left.
use Rattle.std.proofs.Common.{◌≡◌, ◌++◌, List, map, drop, option_map}
use Rattle.toml.specs.Data.{Members}
use Rattle.toml.specs.View.{items_view, table_view}
use Rattle.kn_netfile.specs.Keys.{all_tables}
use Rattle.kn_netfile.proofs.arrays.all_tables.Given as goal

abbrev pub invariant-loop-value : goal.invariant-loop-value
invariant-loop-value l = option_map (λ (rest : List Members). map (λ t. table_view t.now) l.tables.items ++ rest) (all_tables (items_view (drop l.value-index l.value-items))) ≡ all_tables (items_view l.value-items)
