-- The nodes so far are at their start.
use Rattle.std.proofs.Common.{◌≡◌, length}
use Rattle.kn_replay.specs.Nodes.{AreStarts}
use Rattle.kn_replay.proofs.replaying.open_all.Given as goal

abbrev pub invariant-loop-node : goal.invariant-loop-node
invariant-loop-node l = record {
  starts : AreStarts l.net.network 0 l.nodes.items;
  whole : length l.nodes.items ≡ l.node;
}
