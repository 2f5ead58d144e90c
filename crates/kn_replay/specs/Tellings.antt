-- What the text of a run says of the network.
use Rattle.std.specs.Prelude.{◌≡◌, ℕ, List, [], ◌∷◌, map}
use Rattle.kn_model.specs.Terms.{Valuation}
use Rattle.kn_model.specs.Concrete.{concrete, events}
use Rattle.kn_model.specs.Nodes.{State, Node}
use Rattle.kn_model.specs.Nets.{Network}
use Rattle.kn_model.specs.Scenarios.{Scenario}
use Rattle.kn_replay.specs.Views.{RunView, states_in}
use Rattle.kn_replay.specs.Runs.{IsReplay}
use Rattle.kn_replay.specs.Texts.{failed_in, replay_text}

-- the states of a scenario's nodes
abbrev pub states_of : Scenario ℕ → List (State ℕ)
states_of s = map (λ (y : Node ℕ). y.state) s.nodes

-- These bytes are the text of the run on these inputs, of its one scenario and its events; and so many of its nodes failed.
pub record IsTold (net : Network) (a : Valuation) (bytes : List ℕ) (count : ℕ) : Type 0 where
  pub scenario : Scenario ℕ
  pub is : concrete net a net.limits.ticks ≡ scenario ∷ []
  pub text : bytes ≡ replay_text net (events net a) (states_of scenario)
  pub failed : count ≡ failed_in (states_of scenario)

-- The text of a run that is kept, and how many of its nodes failed, are those of the definitions' run.
abbrev pub TextTells : Type 0
TextTells = (net : Network) (a : Valuation) (run : RunView) → IsReplay net a run → IsTold net a (replay_text net run.events (states_in run.nodes)) (failed_in (states_in run.nodes))
