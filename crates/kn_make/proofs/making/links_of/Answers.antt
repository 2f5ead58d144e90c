use Rattle.std.proofs.Common.{List, ◌++◌, ap, sym, ◌∙◌, append-nil}
use Rattle.kn_plan.specs.Nets.{Link}
use Rattle.kn_make.proofs.Nodes.{links_more, with_link, without_link}
use Rattle.kn_make.proofs.making.links_of.Goals as goal
use Rattle.kn_make.proofs.making.links_of.Goals.{then-node-length-ne0+in_ok-push, else-node-length-ne0}

pub loop-node-preserved : goal.loop-node-preserved
loop-node-preserved c =
    links_more c.args.length c.loop-node.node c.loop-node.links.items c.if-node-length-ne0.links.items c.loop-node.invariant
    (elim c.if-node-length-ne0.branch [
      | then-node-length-ne0+in_ok-push w ↦ ap (λ v. v.items) w.links-is ∙ (w.in_ok-push.ensures.items ∙ ap (λ (l : List Link). c.loop-node.links.items ++ l) (sym (with_link c.args.length c.loop-node.node w.if-node-length-ne0.true)))
      | else-node-length-ne0 w ↦ ap (λ v. v.items) w.links-is ∙ (sym (append-nil c.loop-node.links.items) ∙ ap (λ (l : List Link). c.loop-node.links.items ++ l) (sym (without_link c.args.length c.loop-node.node w.if-node-length-ne0.false)))
    ])
