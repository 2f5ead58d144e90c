-- What is left goes behind what is in the queue.
use Rattle.std.proofs.Common.{◌≡◌, drop}
use Rattle.kn_built.specs.Putting.{put_all}
use Rattle.kn_packet.specs.Packets.{packet_le}
use Rattle.kn_step.proofs.receiving.post_all.Given as goal

abbrev pub invariant-loop-packet : goal.invariant-loop-packet
invariant-loop-packet l = put_all packet_le (drop l.packet-index l.inbox) l.queue ≡ put_all packet_le l.inbox l.initial.queue
