use Rattle.std.proofs.Common.{◌≡◌, length, map}
use Rattle.std.specs.Arc.{arc_value}
use Rattle.kn_cob.specs.Closing.{AreStarts}
use Rattle.kn_cob.proofs.copies.NetworkCopy.opening.Given as goal

abbrev pub invariant-loop-node : goal.invariant-loop-node
invariant-loop-node l = record {
  count : length l.nodes.items ≡ l.node;
  starts : AreStarts l.net.network 0 (map arc_value l.nodes.items);
}
