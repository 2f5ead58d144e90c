-- One program further.
use Rattle.toml.specs.View.{table_view}
use Rattle.kn_netfile.specs.Tables.{name_at}
use Rattle.kn_netfile.proofs.Walks.{next_table, programs_turn, programs_more, mapped_more}
use Rattle.kn_netfile.proofs.programs.programs_of.Goals as goal

pub loop-index-preserved : goal.loop-index-preserved
loop-index-preserved c =
    let seen = next_table (λ t. table_view t.now) c.args.tables.now c.loop-index.index c.index-tables-index.result c.loop-index-test.true c.index-tables-index.is in
    record {
      fault = programs_turn _ _ _ _ _ _ _ _ _ _ _ seen c.in_ok-found.ensures c.lower-fault.ensures c.text_at.ensures c.in_ok-push.ensures c.loop-index.invariant.fault;
      programs = programs_more _ _ _ _ _ _ _ seen c.in_ok-program.ensures c.in_ok-push_given.ensures c.loop-index.invariant.programs;
      names = mapped_more name_at _ _ _ _ _ _ _ seen c.text_at.ensures c.in_ok-push.ensures c.loop-index.invariant.names;
    }
