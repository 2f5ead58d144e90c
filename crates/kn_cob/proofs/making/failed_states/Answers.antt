-- One node more, which failed or did not.
use Rattle.std.proofs.Common.{ℕ, Vec, ap, ◌∙◌}
use Rattle.std.specs.declared.alloc.Global.{Global}
use Rattle.kn_cob.specs.Reports.{lines_from, failed_from}
use Rattle.kn_cob.proofs.Reporting.{failed_step, other_step}
use Rattle.kn_cob.proofs.making.failed_states.Goals.{then-has_failed+in_ok-push, else-has_failed}
use Rattle.kn_cob.proofs.making.failed_states.Goals as goal

pub loop-node-preserved : goal.loop-node-preserved
loop-node-preserved c =
    elim c.if-has_failed.branch [
      | then-has_failed+in_ok-push w ↦
          failed_step c.loop-node.failed.items c.if-has_failed.failed.items (failed_from c.args.first (lines_from 0 c.args.scenario.now)) c.args.first c.loop-node.node c.args.scenario.now c.config.result.now c.has_failed.result
          c.config.ensures c.has_failed.ensures w.if-has_failed.true (ap (λ (v : Vec ℕ Global). v.items) w.failed-is ∙ w.in_ok-push.ensures.items) c.loop-node.invariant
      | else-has_failed w ↦
          other_step c.loop-node.failed.items c.if-has_failed.failed.items (failed_from c.args.first (lines_from 0 c.args.scenario.now)) c.args.first c.loop-node.node c.args.scenario.now c.config.result.now c.has_failed.result
          c.config.ensures c.has_failed.ensures w.if-has_failed.false (ap (λ (v : Vec ℕ Global). v.items) w.failed-is) c.loop-node.invariant
    ]
