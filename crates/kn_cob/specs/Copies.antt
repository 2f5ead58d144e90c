-- Copies of the network as they are kept, and the scenarios that they are of.
use Rattle.std.specs.Prelude.{◌≡◌, ◌⊎◌, ℕ, ◌+◌, nat_eq, List, [], ◌∷◌, ◌++◌, filter, length, slice_index_or, slice_set}
use Rattle.kn_term.specs.Terms.{Term}
use Rattle.kn_cond.specs.declared.standing.Standing.TheVariants.{Inputs}
use Rattle.kn_packet.specs.Packets.{PacketView}
use Rattle.kn_node.specs.Opening.{at_start}
use Rattle.kn_model.specs.Nodes.{Node}
use Rattle.kn_model.specs.Nets.{Network, no_plan}
use Rattle.kn_model.specs.Scenarios.{Scenario}
use Rattle.kn_model.specs.Shapes.{IsLost}
use Rattle.kn_machine.specs.Paths.{PathView}
use Rattle.kn_cob.specs.Nodes.{NodeView, IsNode}

-- the nodes from n on, one by one
abbrev pub AreNodes : Network → (t n : ℕ) → List NodeView → List (Node Term) → Type 0
AreNodes net t n [] [] = Unit {0}
AreNodes net t n [] (y ∷ ys) = ⊥
AreNodes net t n (x ∷ xs) [] = ⊥
AreNodes net t n (x ∷ xs) (y ∷ ys) = IsNode net t n x y × AreNodes net t (n + 1) xs ys

-- a copy of the network in tick t, and a scenario
pub record IsCopy (net : Network) (t : ℕ) (xs : List NodeView) (s : Scenario Term) : Type 0 where
  pub whole : length s.nodes ≡ length net.nodes
  pub nodes : AreNodes net t 0 xs s.nodes

-- These copies are of some of the scenarios, in their order; one that is left out has a node whose own condition no inputs meet.
abbrev pub AreCopies : Network → ℕ → List (List NodeView) → List (Scenario Term) → Type 0
AreCopies net t [] [] = Unit {0}
AreCopies net t (c ∷ cs) [] = ⊥
AreCopies net t [] (s ∷ ss) = IsLost net s × AreCopies net t [] ss
AreCopies net t (c ∷ cs) (s ∷ ss) = (IsCopy net t c s × AreCopies net t cs ss) ⊎ (IsLost net s × AreCopies net t (c ∷ cs) ss)

-- a node where there is none
abbrev pub no_node : NodeView
no_node = record {
  config = record { node = 0; machine = at_start no_plan (record { index = 0 }); terms = []; cond = []; trace = []; history = 0; standing = Inputs [] };
  inbox = [];
}

-- node n
abbrev pub node_in : List NodeView → ℕ → NodeView
node_in xs n = slice_index_or xs n no_node

-- node i is sent those of some packets that are for it
abbrev pub sent_to : ℕ → List PacketView → NodeView → NodeView
sent_to i ps x = record x { inbox = x.inbox ++ filter (λ (p : PacketView). nat_eq p.to i) ps }

-- so is each node from i on
abbrev pub mailed : ℕ → List PacketView → List NodeView → List NodeView
mailed i ps [] = []
mailed i ps (x ∷ xs) = sent_to i ps x ∷ mailed (i + 1) ps xs

-- a copy along a path of an event of node n: the node's state after it, and what it sent with those whom it is for
abbrev pub along : List NodeView → ℕ → PathView → List NodeView
along xs n p = mailed 0 p.sends (slice_set xs n (record (node_in xs n) { config = p.config }))
