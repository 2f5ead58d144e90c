use Rattle.std.proofs.Common.{◌≡◌, map, take}
use Rattle.std.specs.Arc.{arc_value}
use Rattle.kn_cob.proofs.copies.share.Given as goal

abbrev pub invariant-loop-node : goal.invariant-loop-node
invariant-loop-node l = map arc_value l.copies.items ≡ map arc_value (take l.node-index l.nodes)
