-- The packets so far are in, and the others come after them.
use Rattle.std.proofs.Common.{◌≡◌, drop}
use Rattle.kn_model.specs.Packets.{packet_le, put_all}
use Rattle.kn_conc.proofs.queue.put_copies.Given as goal

abbrev pub invariant-loop-packet : goal.invariant-loop-packet
invariant-loop-packet l = put_all packet_le (drop l.packet-index l.packets) l.queue.items ≡ put_all packet_le l.packets l.initial.queue.items
