use Rattle.std.proofs.Common.{◌≡◌, drop}
use Rattle.std.specs.Prelude.{filter, nat_eq}
use Rattle.kn_packet.specs.Packets.{PacketView}
use Rattle.kn_cob.proofs.node.is_sent_to.Given as goal

abbrev pub invariant-loop-packet : goal.invariant-loop-packet
invariant-loop-packet l = filter (λ (p : PacketView). nat_eq p.to l.node) l.sends ≡ filter (λ (p : PacketView). nat_eq p.to l.node) (drop l.packet-index l.sends)
