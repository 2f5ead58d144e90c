-- The nodes so far.
use Rattle.std.proofs.Common.{◌≡◌, map}
use Rattle.std.specs.List.{range_with_len}
use Rattle.kn_make.specs.Making.{plan_of}
use Rattle.kn_make.proofs.making.nodes_of.Given as goal

abbrev pub invariant-loop-node : goal.invariant-loop-node
invariant-loop-node l = l.nodes.items ≡ map (plan_of l.length) (range_with_len 0 l.node)
