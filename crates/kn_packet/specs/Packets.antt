-- Packets as contracts see them, their order, and the queue.
use Rattle.std.specs.Prelude.{◌≡◌, ℕ, ◌<◌, ◌≤◌, Bool, List, length, Option, Some, slice_get}
use Rattle.kn_built.specs.Putting.{put_in, AreSorted}
use Rattle.kn_term.specs.declared.node.Node.{Node}
use Rattle.kn_term.specs.declared.node.Ref.{Ref}
use Rattle.kn_term.specs.declared.node.Literal.{Literal}
use Rattle.kn_packet.specs.declared.packet.Stamp.{Stamp}
use Rattle.kn_packet.specs.Keys.{Key, le_by, arrives_by, first_by, others_by}

-- A packet's fields. Payload and guard are over the packet's own terms.
pub record PacketView : Type 0 where
  pub from : ℕ
  pub seq : ℕ
  pub copy : ℕ
  pub to : ℕ
  pub arrival : ℕ
  pub payload : List Ref
  pub guard : List Literal
  pub terms : List Node
  pub stamp : Stamp

-- Refs and literals stand among a packet's own terms, and it has no more words than a packet can carry.
pub record IsPacket (terms : List Node) (payload : List Ref) (guard : List Literal) : Type 0 where
  pub few : length payload ≤ 8
  pub payload_stands : (place : ℕ) (r : Ref) → slice_get payload place ≡ Some r → r.index < length terms
  pub guard_stands : (place : ℕ) (l : Literal) → slice_get guard place ≡ Some l → l.term.index < length terms

-- a packet's key
abbrev pub key_of : PacketView → Key
key_of p = record { arrival = p.arrival; from = p.from; seq = p.seq; copy = p.copy }

-- by arrival, sender, sequence, copy: p does not come after q
abbrev pub packet_le : PacketView → PacketView → Bool
packet_le p q = le_by key_of p q

-- a packet arrives at a tick
abbrev pub arrives_at : ℕ → PacketView → Bool
arrives_at tick p = arrives_by key_of tick p

-- the first packet that arrives at a tick
abbrev pub first_at : ℕ → List PacketView → Option PacketView
first_at tick q = first_by key_of tick q

-- the others
abbrev pub without_first_at : ℕ → List PacketView → List PacketView
without_first_at tick q = others_by key_of tick q

-- a queue with one more packet, in its place
abbrev pub posted : PacketView → List PacketView → List PacketView
posted p q = put_in packet_le p q

-- a queue is in order
abbrev pub IsQueue : List PacketView → Type 0
IsQueue q = AreSorted packet_le q
