-- One node further.
use Rattle.toml.specs.View.{table_view}
use Rattle.kn_netfile.proofs.Walks.{next_table, nodes_turn}
use Rattle.kn_netfile.proofs.nodes.nodes_fault.Goals as goal

pub loop-index-preserved : goal.loop-index-preserved
loop-index-preserved c =
    let seen = next_table (λ t. table_view t.now) c.args.tables.now c.loop-index.index c.index-tables-index.result c.loop-index-test.true c.index-tables-index.is in
    nodes_turn _ _ _ _ _ _ _ _ _ seen c.in_ok-found.ensures c.lower-fault.ensures c.loop-index.invariant
