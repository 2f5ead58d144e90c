-- The links of the nodes so far.
use Rattle.std.proofs.Common.{◌≡◌}
use Rattle.std.specs.List.{range_with_len, flat_map}
use Rattle.kn_make.specs.Making.{links_from}
use Rattle.kn_make.proofs.making.links_of.Given as goal

abbrev pub invariant-loop-node : goal.invariant-loop-node
invariant-loop-node l = l.links.items ≡ flat_map (links_from l.length) (range_with_len 0 l.node)
