-- Nodes of a network as a run keeps them, and the scenario that they are of.
use Rattle.std.specs.Prelude.{◌≡◌, ℕ, ◌+◌, nat_eq, List, [], ◌∷◌, filter, length, slice_index_or}
use Rattle.kn_model.specs.Terms.{words}
use Rattle.kn_model.specs.Packets.{Packet}
use Rattle.kn_model.specs.Nodes.{State, Node, state_of}
use Rattle.kn_model.specs.Nets.{Network, plan_of}
use Rattle.kn_model.specs.Scenarios.{Scenario}
use Rattle.kn_model.specs.Alikes.{AlikeRun}
use Rattle.kn_model.specs.Laws.{queued_all}
use Rattle.kn_conc.specs.Views.{NodeView}

-- node n of a run, and the definition's node: equal but for the own condition, which a run does not keep
pub record IsNode (n : ℕ) (x : NodeView) (y : Node ℕ) : Type 0 where
  pub of_node : x.node ≡ n
  pub alike : AlikeRun x.state y.state

-- the nodes from n on, one by one
abbrev pub AreNodes : ℕ → List NodeView → List (Node ℕ) → Type 0
AreNodes n [] [] = Unit {0}
AreNodes n [] (y ∷ ys) = ⊥
AreNodes n (x ∷ xs) [] = ⊥
AreNodes n (x ∷ xs) (y ∷ ys) = IsNode n x y × AreNodes (n + 1) xs ys

-- these nodes are those of a scenario of the network
pub record IsNetwork (net : Network) (xs : List NodeView) (s : Scenario ℕ) : Type 0 where
  pub whole : length s.nodes ≡ length net.nodes
  pub nodes : AreNodes 0 xs s.nodes

-- they are those of some scenario
pub record HasNetwork (net : Network) (xs : List NodeView) : Type 0 where
  pub scenario : Scenario ℕ
  pub of : IsNetwork net xs scenario

-- a state before anything has run
abbrev pub start_of : Network → ℕ → State ℕ
start_of net n = state_of (words []) (plan_of net n).loss (plan_of net n).duplicate (plan_of net n).reboot

-- node n before anything has run
pub record IsStart (net : Network) (n : ℕ) (x : NodeView) : Type 0 where
  pub of_node : x.node ≡ n
  pub state : x.state ≡ start_of net n

-- the nodes from n on, one by one
abbrev pub AreStarts : Network → ℕ → List NodeView → Type 0
AreStarts net n [] = Unit {0}
AreStarts net n (x ∷ xs) = IsStart net n x × AreStarts net (n + 1) xs

-- a node where there is none
abbrev pub no_node : NodeView
no_node = record { node = 0; state = state_of (words []) 0 0 [] }

-- node n
abbrev pub node_in : List NodeView → ℕ → NodeView
node_in xs n = slice_index_or xs n no_node

-- node i is given those of some packets that are for it
abbrev pub given_to : ℕ → List (Packet ℕ) → NodeView → NodeView
given_to i ps x = record x { state = queued_all (filter (λ (p : Packet ℕ). nat_eq p.to i) ps) x.state }

-- so is each node from i on
abbrev pub mailed : ℕ → List (Packet ℕ) → List NodeView → List NodeView
mailed i ps [] = []
mailed i ps (x ∷ xs) = given_to i ps x ∷ mailed (i + 1) ps xs
