use Rattle.std.proofs.Common.{ap}
use Rattle.kn_dstate.specs.Graphs.{GraphView}
use Rattle.kn_dstate.proofs.Holding.{lowest_shown, none_shown}
use Rattle.kn_dstate.proofs.graph.Graph.state_from.Goals as goal

pub returns-in-Some : goal.returns-in-Some
returns-in-Some c = lowest_shown c.self.inside.states.slots c.args.self.now.states c.args.least c.in-Some.key (ap (λ (g : GraphView). g.states) c.self.view_is) c.in-Some.ensures

pub returns-in-None : goal.returns-in-None
returns-in-None c = none_shown c.self.inside.states.slots c.args.self.now.states c.args.least (ap (λ (g : GraphView). g.states) c.self.view_is) c.in-None.ensures
