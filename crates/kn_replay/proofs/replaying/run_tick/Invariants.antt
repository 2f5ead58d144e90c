-- The nodes so far have run.
use Rattle.std.proofs.Common.{ℕ}
use Rattle.kn_model.specs.Scenarios.{Scenario}
use Rattle.kn_replay.specs.Nodes.{IsNetwork}
use Rattle.kn_replay.proofs.Ticking.{IsTicking}
use Rattle.kn_replay.proofs.replaying.run_tick.Given as goal

abbrev pub invariant-loop-node : goal.invariant-loop-node
invariant-loop-node l = (s : Scenario ℕ) → IsNetwork l.net.network l.initial.nodes s → IsTicking l.net.network l.inputs l.tick l.node s l.nodes l.initial.events.items l.events.items
