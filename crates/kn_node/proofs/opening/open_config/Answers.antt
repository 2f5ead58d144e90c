-- A state at its start.
use Rattle.std.proofs.Common.{◌<◌, length, List, subst, sym}
use Rattle.kn_term.specs.declared.node.Node.{Node}
use Rattle.kn_node.proofs.Standing.{start_stands}
use Rattle.kn_node.proofs.opening.open_config.Goals as goal

pub invariant_of-result : goal.invariant_of-result
invariant_of-result c =
    start_stands c.freeze.new.self c.index.result.now c.in_ok-zero.zero c.in_ok-machine.machine c.new.result
    (subst (λ (ns : List Node). c.in_ok-zero.zero.index < length ns) (sym c.freeze.ensures) c.in_ok-zero.ensures.stands) c.in_ok-machine.ensures c.new.ensures
