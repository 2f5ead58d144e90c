-- The node's next state, and what it sent.
use Rattle.std.proofs.Common.{ℕ, List, set, ap, subst, ◌∙◌}
use Rattle.kn_model.specs.Packets.{Packet}
use Rattle.kn_conc.specs.Views.{NodeView}
use Rattle.kn_replay.specs.Nodes.{mailed, no_node}
use Rattle.kn_replay.specs.Turns.{IsEvent}
use Rattle.kn_replay.proofs.Bits.{same_item}
use Rattle.kn_replay.proofs.turn.turn.Goals as goal

pub returns : goal.returns
returns c =
    let n = c.args.place.node in
    let x = c.index-nodes-place.result in
    record {
      next = c.run_one.new.node;
      sends = c.in_ok-bits.sends.items;
      event = subst (λ (z : NodeView). IsEvent c.args.net.now.network c.args.inputs.now c.args.place.tick z c.run_one.new.node c.in_ok-bits.bits c.in_ok-bits.sends.items) (same_item c.args.nodes.now n x no_node c.requires.inside) c.in_ok-bits.ensures;
      posted = c.in_ok-post.ensures ∙ ap (λ (ps : List (Packet ℕ)). mailed 0 ps (set c.args.nodes.now n c.run_one.new.node)) c.deref.ensures.value;
    }
