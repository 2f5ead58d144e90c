-- All that is known is of before the event.
use Rattle.std.proofs.Common.{List, length, ap}
use Rattle.kn_term.specs.declared.node.Literal.{Literal}
use Rattle.kn_machine.proofs.Ending.{is_way_new}
use Rattle.kn_machine.proofs.way.Way.new.Goals as goal

pub invariant_of-result : goal.invariant_of-result
invariant_of-result c =
    is_way_new c.c.inside.terms c.c.inside.machine c.c.inside.cond c.new-2.result (length c.literals-own.result.now) c.c.invariant (ap (λ (ls : List Literal). length ls) c.literals-own.ensures) c.new-2.ensures
