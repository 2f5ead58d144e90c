use Rattle.std.proofs.Common.{◌≡◌, take}
use Rattle.std.specs.declared.cmp.Ordering.TheVariants.{Equal}
use Rattle.kn_cob.specs.Orders.{name_cmp}
use Rattle.kn_cob.specs.Runs.{name_in}
use Rattle.kn_cob.proofs.ordering.cmp_names.Given as goal

-- the traces of all nodes so far are the same
abbrev pub invariant-loop-node : goal.invariant-loop-node
invariant-loop-node l = name_cmp (take l.node (name_in l.a)) (take l.node (name_in l.b)) ≡ Equal
