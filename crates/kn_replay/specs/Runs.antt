-- What the run of a network on given inputs is.
use Rattle.std.specs.Prelude.{◌≡◌, ℕ, [], ◌∷◌}
use Rattle.kn_model.specs.Terms.{Valuation}
use Rattle.kn_model.specs.Concrete.{concrete, events}
use Rattle.kn_model.specs.Nets.{Network}
use Rattle.kn_model.specs.Scenarios.{Scenario}
use Rattle.kn_replay.specs.Views.{RunView}
use Rattle.kn_replay.specs.Nodes.{IsNetwork}

-- The run on these inputs is one scenario, whose nodes these are; and these are its events, in their order.
pub record IsReplay (net : Network) (a : Valuation) (run : RunView) : Type 0 where
  pub scenario : Scenario ℕ
  pub is : concrete net a net.limits.ticks ≡ scenario ∷ []
  pub nodes : IsNetwork net run.nodes scenario
  pub events : run.events ≡ events net a
