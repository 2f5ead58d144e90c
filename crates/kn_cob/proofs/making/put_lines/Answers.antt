-- One line more.
use Rattle.std.proofs.Common.{◌++◌}
use Rattle.kn_cob.specs.Reports.{lines_from}
use Rattle.kn_cob.proofs.Reporting.{lines_step}
use Rattle.kn_cob.proofs.making.put_lines.Goals as goal

pub loop-node-preserved : goal.loop-node-preserved
loop-node-preserved c =
    lines_step c.loop-node.lines.items c.push.new.self.items (c.args.lines.now.items ++ lines_from 0 c.args.scenario.now) c.args.scenario.now c.loop-node.node c.config.result.now c.in_ok-line_of.field-0
    c.config.ensures c.in_ok-line_of.ensures c.in_ok-push.ensures.items c.loop-node.invariant
