-- None of those so far arrives before the first tick so far.
use Rattle.std.proofs.Common.{◌≡◌, ℕ, ◌<◌, take, None}
use Rattle.kn_packet.specs.Packets.{first_at}
use Rattle.kn_packet.proofs.queue.first_arrival.Given as goal

abbrev pub invariant-loop-packet : goal.invariant-loop-packet
invariant-loop-packet l = (tick : ℕ) → tick < l.first → first_at tick (take l.packet-index l.packets) ≡ None
