use Rattle.std.proofs.Common.{ap, arith}
use Rattle.kn_dstate.specs.Graphs.{GraphView}
use Rattle.kn_dstate.proofs.graph.Graph.inbox.Goals as goal

pub inbox-requires : goal.inbox-requires
inbox-requires c = omega (arith, (c.self.invariant.places c.args.d.0 c.index.result.now c.index.ensures).inboxes_many, ap (λ (g : GraphView). g.nodes) c.self.view_is, c.requires.node)
