-- One own condition more.
use Rattle.std.proofs.Common.{ap, ◌∙◌}
use Rattle.kn_solve.specs.Formulas.{Asked}
use Rattle.kn_machine.specs.Views.{own_of}
use Rattle.kn_cob.specs.Reports.{joint_of}
use Rattle.kn_cob.proofs.Reporting.{joint_step}
use Rattle.kn_cob.proofs.making.joint_of.Goals as goal

pub loop-node-preserved : goal.loop-node-preserved
loop-node-preserved c = record {
  condition = joint_step c.loop-node.joint c.add.new.self _ (joint_of c.args.scenario.now) c.args.scenario.now c.loop-node.node c.config-config.result.now
      c.config-config.ensures c.in_ok-add.ensures.ok (ap own_of c.config.view_is) c.loop-node.invariant.condition;
  columns = ap (λ (f : Asked). f.columns) c.in_ok-add.ensures.ok ∙ c.loop-node.invariant.columns;
}
