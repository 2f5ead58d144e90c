-- The ticks so far have run.
use Rattle.kn_replay.specs.Turns.{IsDone}
use Rattle.kn_replay.proofs.replaying.run_all.Given as goal

abbrev pub invariant-loop-tick : goal.invariant-loop-tick
invariant-loop-tick l = IsDone l.net.network l.inputs l.tick l.nodes l.events.items
