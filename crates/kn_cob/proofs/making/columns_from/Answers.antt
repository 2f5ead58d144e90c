-- One column more.
use Rattle.kn_model.specs.Reports.{singles}
use Rattle.kn_cob.proofs.Reporting.{columns_step}
use Rattle.kn_cob.proofs.making.columns_from.Goals as goal

pub loop-place-preserved : goal.loop-place-preserved
loop-place-preserved c =
    columns_step c.loop-place.lists.items c.push.new.self.items c.in_ok-numbers_from.field-0 (singles c.args.count c.args.first) c.args.count c.args.first c.loop-place.place
    c.loop-place-test.true c.in_ok-push.ensures.items c.in_ok-numbers_from.ensures c.loop-place.invariant
