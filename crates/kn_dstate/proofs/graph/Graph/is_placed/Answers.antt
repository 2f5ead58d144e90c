use Rattle.std.proofs.Common.{ap}
use Rattle.kn_dstate.specs.Graphs.{GraphView}
use Rattle.kn_dstate.proofs.Holding.{placed}
use Rattle.kn_dstate.proofs.graph.Graph.is_placed.Goals as goal

pub returns : goal.returns
returns c =
    let inside = c.self.inside in
    placed inside.nodes inside.dstates.slots inside.states.slots inside.rows.items inside.packets.items c.args.self.now c.args.s.0 c.index.result.now c.is_placed.result c.self.invariant
    (ap (λ (g : GraphView). g.dstates) c.self.view_is) (ap (λ (g : GraphView). g.states) c.self.view_is) c.index.ensures c.is_placed.ensures
