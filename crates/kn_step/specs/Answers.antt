-- What an event's paths and a node's receipt of packets are.
use Rattle.std.specs.Prelude.{◌≡◌, ⊤, ℕ, ◌<◌, ◌≤◌, List, ◌++◌, length, map, flat_map, Option, Some, None}
use Rattle.std.specs.List.{AllByRecursion}
use Rattle.kn_term.specs.Terms.{Term}
use Rattle.kn_cond.specs.Conditions.{Condition, that, IsImpossible, StandsFor}
use Rattle.kn_packet.specs.declared.packet.Event.{Event}
use Rattle.kn_packet.specs.declared.packet.Event.TheVariants as events
use Rattle.kn_cond.specs.Meanings.{condition_of}
use Rattle.kn_packet.specs.Packets.{PacketView}
use Rattle.kn_node.specs.Views.{ConfigView}
use Rattle.kn_model.specs.Terms.{terms}
use Rattle.kn_model.specs.Nets.{Network}
use Rattle.kn_model.specs.Due.{due}
use Rattle.kn_model.specs.Paths.{Path, event_paths}
use Rattle.kn_model.specs.Alikes.{Alike, AreGiven}
use Rattle.kn_machine.specs.Views.{packet_of, state_of, own_of, received}
use Rattle.kn_machine.specs.Paths.{PathView, path_seen}
use Rattle.kn_step.specs.Given.{AreGivenSoFar, AreKept}
use Rattle.kn_step.specs.declared.path.TooMany.{TooMany}
use Rattle.kn_step.specs.declared.path.StepStop.{StepStop}
use Rattle.kn_step.specs.declared.path.StepStop.TheVariants as stops

-- a state that an event may be run from: of a node of the network, at a tick of it, with what is known of its own condition
pub record IsReady (net : Network) (tick : ℕ) (c : ConfigView) : Type 0 where
  pub node : c.node < length net.nodes
  pub early : tick < net.limits.ticks
  pub standing : StandsFor net.limits.conflicts (that (own_of c)) c.standing
  pub senders : AllByRecursion (λ (p : PacketView). p.from < length net.nodes) c.machine.queue

-- the paths of an event from a state
abbrev pub paths_from : Network → (tick : ℕ) → Event → ConfigView → List (Path Term)
paths_from net tick e c = event_paths terms net c.node tick e (state_of c)

-- The event is the first due one, and the paths are given of its paths: in their order, each alike, and no inputs meet
-- the own condition of one that is left out; and what is known of each is right.
pub record AreRun (net : Network) (tick : ℕ) (c : ConfigView) (e : Event) (ps : List PathView) : Type 0 where
  pub due : due net.limits.ticks tick (state_of c) ≡ Some e
  pub given : AreGiven (map path_seen ps) (paths_from net tick e c)
  pub kept : AreKept net.limits.conflicts c.node c.history ps
  pub few : length ps ≤ net.limits.states

-- The event is the first due one, and these are more than `states` of its paths, given with some more behind them; and
-- what is known of each is right.
pub record AreTooMany (net : Network) (tick : ℕ) (c : ConfigView) (e : Event) (ps : List PathView) : Type 0 where
  pub due : due net.limits.ticks tick (state_of c) ≡ Some e
  pub given : AreGivenSoFar (map path_seen ps) (paths_from net tick e c)
  pub kept : AreKept net.limits.conflicts c.node c.history ps
  pub many : net.limits.states < length ps

-- the state with the packets in its queue and their guards in its own condition, with what is known of it
pub record IsReceived (conflicts : ℕ) (c : ConfigView) (inbox : List PacketView) (d : ConfigView) : Type 0 where
  pub node : d.node ≡ c.node
  pub history : d.history ≡ c.history
  pub alike : Alike (state_of d) (received (map packet_of inbox) (state_of c))
  pub standing : StandsFor conflicts (that (own_of d)) d.standing

-- no inputs meet the own condition with the guards
abbrev pub IsRefused : ConfigView → List PacketView → Type 0
IsRefused c inbox = IsImpossible (that (received (map packet_of inbox) (state_of c)).own)

-- a timer is one of eight
abbrev pub IsSmall : Event → Type 0
IsSmall events.Boot = ⊤
IsSmall events.Reboot = ⊤
IsSmall (events.Packet from seq copy) = ⊤
IsSmall (events.Timer number) = number < 8

-- what holds where an event has too many paths
abbrev pub OnStop : (TooMany → Type 0) → StepStop → Type 0
OnStop P (stops.TooMany t) = P t
OnStop P (stops.Memory e) = ⊤

-- the guards of packets, in a row
abbrev pub guards_of : List PacketView → Condition
guards_of ps = flat_map (λ (p : PacketView). condition_of p.terms p.guard) ps

-- what is received, or that no inputs meet it
abbrev pub OnReceived : ℕ → ConfigView → List PacketView → Option ConfigView → Type 0
OnReceived conflicts c inbox None = IsRefused c inbox
OnReceived conflicts c inbox (Some d) = IsReceived conflicts c inbox d

-- a state whose own condition became more, with what is known of it, or that no inputs meet it
abbrev pub OnLearned : ℕ → ConfigView → Condition → Option ConfigView → Type 0
OnLearned conflicts c more None = IsImpossible (that (own_of c ++ more))
OnLearned conflicts c more (Some d) =
    (state_of d ≡ record (state_of c) { own = own_of c ++ more }) × StandsFor conflicts (that (own_of d)) d.standing × (d.node ≡ c.node) × (d.history ≡ c.history)
