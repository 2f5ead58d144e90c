-- What is made is in range.
use Rattle.std.proofs.Common.{length, ap, arith}
use Rattle.kn_make.proofs.Valid.{parts_in_range}
use Rattle.kn_make.proofs.making.net_of.Goals as goal

pub invariant_of-result : goal.invariant_of-result
invariant_of-result c =
    parts_in_range c.args.length c.args.readings c.args.chains _ _ _ _ _ _ c.requires.two c.requires.length c.requires.readings c.requires.one c.requires.chains
    (omega arith) (ap length c.in_ok-from_array.ensures.items) c.in_ok-nodes_of.ensures c.in_ok-links_of.ensures c.in_ok-names.ensures c.new.ensures
