use Rattle.std.proofs.Common.{◌≤◌, length}
use Rattle.kn_cob.specs.Copies.{AreCopies}
use Rattle.kn_cob.specs.Ticks.{so_far}
use Rattle.kn_cob.proofs.exploring.run_tick.Given as goal

abbrev pub invariant-loop-node : goal.invariant-loop-node
invariant-loop-node g l = record {
  made : AreCopies l.net.network l.tick l.list.items (so_far l.net.network l.tick l.node);
  few : length l.list.items ≤ l.net.network.limits.dstates;
}
