-- A node in a tick as it is kept, and the definition's node that it is of.
use Rattle.std.specs.Prelude.{◌≡◌, ℕ, ◌<◌, List, length, map, flat_map}
use Rattle.std.specs.List.{AllByRecursion}
use Rattle.kn_term.specs.Terms.{Term}
use Rattle.kn_cond.specs.Conditions.{Condition, that, StandsFor}
use Rattle.kn_packet.specs.Packets.{PacketView}
use Rattle.kn_node.specs.Views.{ConfigView}
use Rattle.kn_model.specs.Packets.{Packet, Parcel}
use Rattle.kn_model.specs.Nodes.{State, Node}
use Rattle.kn_model.specs.Nets.{Network}
use Rattle.kn_model.specs.Alikes.{Alike, ConditionAlike}
use Rattle.kn_model.specs.Laws.{queued_all}
use Rattle.kn_machine.specs.Views.{packet_of, own_of, state_of}
use Rattle.kn_step.specs.Answers.{guards_of}

-- a node's state, and the packets that it was sent in this tick, in the order in which they were sent
pub record NodeView : Type 0 where
  pub config : ConfigView
  pub inbox : List PacketView

-- the state with what it was sent in its queue
abbrev pub waiting : NodeView → State Term
waiting x = queued_all (map packet_of x.inbox) (state_of x.config)

-- the guards of parcels, in a row
abbrev pub guards_in : List (Parcel Term) → Condition
guards_in ps = flat_map (λ (p : Parcel Term). p.packet.guard) ps

-- packets from nodes of the network
abbrev pub AreFrom : Network → List (Packet Term) → Type 0
AreFrom net ps = AllByRecursion (λ (p : Packet Term). p.from < length net.nodes) ps

-- what is kept of node n in tick t, and the definition's node: alike with what was sent in the queue, and as much is asked by
-- what was sent; what is known of its own condition is right; and what waits is from nodes of the network
pub record IsNode (net : Network) (t n : ℕ) (x : NodeView) (y : Node Term) : Type 0 where
  pub of_node : x.config.node ≡ n
  pub of_history : x.config.history ≡ 0
  pub alike : Alike (waiting x) y.state
  pub guards : ConditionAlike (guards_of x.inbox) (guards_in y.fresh)
  pub later : AllByRecursion (λ (p : PacketView). (t < p.arrival) × (p.copy ≡ 0)) x.inbox
  pub standing : StandsFor net.limits.conflicts (that (own_of x.config)) x.config.standing
  pub senders : AreFrom net y.state.queue
