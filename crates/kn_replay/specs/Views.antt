-- A run as it is kept.
use Rattle.std.specs.Prelude.{ℕ, List, map}
use Rattle.kn_model.specs.Nodes.{State}
use Rattle.kn_model.specs.Concrete.{Happened}
use Rattle.kn_conc.specs.Views.{NodeView}

-- the nodes by their numbers, and the events in their order
pub record RunView : Type 0 where
  pub nodes : List NodeView
  pub events : List Happened

-- the states of nodes
abbrev pub states_in : List NodeView → List (State ℕ)
states_in xs = map (λ (x : NodeView). x.state) xs
