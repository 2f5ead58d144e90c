-- One plan further.
use Rattle.std.proofs.Common.{◌≤◌}
use Rattle.std.specs.List.{AllByRecursion}
use Rattle.toml.specs.View.{table_view}
use Rattle.kn_plan.specs.Nets.{Plan}
use Rattle.kn_netfile.specs.Tables.{plan_at}
use Rattle.kn_netfile.proofs.Walks.{one_of, next_table, mapped_more}
use Rattle.kn_netfile.proofs.building.plans_of.Goals as goal

pub plan_of-requires : goal.plan_of-requires
plan_of-requires c = one_of (λ (p : Plan). AllByRecursion (λ t. t ≤ 4095) p.reboot) (plan_at c.args.names.now) (λ t. table_view t.now) c.args.tables.now c.loop-table.table-index c.table-item.result c.requires c.loop-table-test.true c.table-item.is

pub loop-table-preserved : goal.loop-table-preserved
loop-table-preserved c =
    let seen = next_table (λ t. table_view t.now) c.args.tables.now c.loop-table.table-index c.table-item.result c.loop-table-test.true c.table-item.is in
    mapped_more (plan_at c.args.names.now) _ _ _ _ _ _ _ seen c.in_ok-plan_of.ensures c.in_ok-push.ensures.items c.loop-table.invariant
