-- None of those so far arrives at the tick.
use Rattle.kn_built.proofs.Places.{NoneBefore}
use Rattle.kn_packet.specs.Packets.{arrives_at}
use Rattle.kn_packet.proofs.queue.place_at.Given as goal

abbrev pub invariant-loop-place : goal.invariant-loop-place
invariant-loop-place l = NoneBefore (arrives_at l.tick) l.packets l.place
