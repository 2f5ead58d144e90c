-- One input further.
use Rattle.toml.specs.View.{table_view}
use Rattle.kn_netfile.proofs.Walks.{next_table, inputs_turn_of}
use Rattle.kn_netfile.proofs.building.inputs_of.Goals as goal

pub loop-table-preserved : goal.loop-table-preserved
loop-table-preserved c =
    let seen = next_table (λ t. table_view t.now) c.args.tables.now c.loop-table.table-index c.table-item.result c.loop-table-test.true c.table-item.is in
    inputs_turn_of c.args.nodes _ _ _ _ _ _ seen c.requires.order c.in_ok-add_input.ensures c.loop-table.invariant
