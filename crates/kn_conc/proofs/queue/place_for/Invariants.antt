-- The packet comes after those so far.
use Rattle.kn_built.proofs.Places.{IsPast}
use Rattle.kn_model.specs.Packets.{packet_le}
use Rattle.kn_conc.proofs.queue.place_for.Given as goal

abbrev pub invariant-loop-place : goal.invariant-loop-place
invariant-loop-place l = IsPast packet_le l.p l.queue l.place
