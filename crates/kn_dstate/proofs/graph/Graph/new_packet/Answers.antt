use Rattle.std.proofs.Common.{◌∷◌, []}
use Rattle.kn_dstate.proofs.Holding.{IsGraph-packet}
use Rattle.kn_dstate.proofs.graph.Graph.new_packet.Goals as goal

pub invariant_of-self-2 : goal.invariant_of-self-2
invariant_of-self-2 c =
    let inside = c.self.inside in
    IsGraph-packet inside.nodes inside.dstates.slots inside.states.slots inside.rows.items inside.packets.items c.push.new.self.items (c.args.to ∷ []) c.self.invariant c.in_ok-push.ensures.items
