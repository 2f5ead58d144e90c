-- None of those so far arrives at the tick.
use Rattle.kn_built.proofs.Places.{NoneBefore}
use Rattle.kn_model.specs.Due.{comes_at}
use Rattle.kn_conc.proofs.queue.place_at.Given as goal

abbrev pub invariant-loop-place : goal.invariant-loop-place
invariant-loop-place l = NoneBefore (comes_at l.tick) l.queue l.place
