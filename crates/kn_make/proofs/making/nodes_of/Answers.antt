use Rattle.std.proofs.Common.{[], ◌∷◌, ◌++◌, ap, ◌∙◌}
use Rattle.kn_plan.specs.Nets.{Plan}
use Rattle.kn_make.proofs.Nodes.{node_more}
use Rattle.kn_make.proofs.making.nodes_of.Goals as goal

pub loop-node-preserved : goal.loop-node-preserved
loop-node-preserved c =
    node_more c.args.length c.loop-node.node c.loop-node.nodes.items c.push.new.self.items c.loop-node.invariant (c.in_ok-push.ensures.items ∙ ap (λ (p : Plan). c.loop-node.nodes.items ++ p ∷ []) c.plan_of.ensures)
