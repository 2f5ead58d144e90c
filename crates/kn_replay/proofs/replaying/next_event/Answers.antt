-- The node is read by its number.
use Rattle.std.proofs.Common.{ap, ◌∙◌}
use Rattle.kn_model.specs.Due.{due}
use Rattle.kn_conc.specs.Views.{NodeView}
use Rattle.kn_replay.specs.Nodes.{no_node}
use Rattle.kn_replay.proofs.Bits.{same_item}
use Rattle.kn_replay.proofs.replaying.next_event.Goals as goal

pub returns : goal.returns
returns c =
    c.due_at.ensures.due
    ∙ ap (λ (x : NodeView). due c.args.net.now.network.limits.ticks c.args.place.tick x.state) (c.index-nodes-place.is ∙ same_item c.args.nodes.now c.args.place.node c.index-nodes-place.result no_node c.requires)
