-- Some events of the node have run; each leaves fewer for the tick.
use Rattle.std.proofs.Common.{ℕ}
use Rattle.kn_model.specs.Due.{left}
use Rattle.kn_model.specs.Scenarios.{Scenario}
use Rattle.kn_replay.specs.Nodes.{IsNetwork, node_in}
use Rattle.kn_replay.proofs.Turning.{IsTurning}
use Rattle.kn_replay.proofs.replaying.settle.Given as goal

abbrev pub invariant-loop-event : goal.invariant-loop-event
invariant-loop-event l = (s : Scenario ℕ) → IsNetwork l.net.network l.initial.nodes s → IsTurning l.net.network l.inputs l.place.tick l.place.node s l.nodes l.initial.events.items l.events.items

abbrev pub decreases-loop-event : goal.decreases-loop-event
decreases-loop-event l = left l.net.network.limits.ticks l.place.tick (node_in l.nodes l.place.node).state
