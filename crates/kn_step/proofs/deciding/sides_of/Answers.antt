-- One side of a decision is asked for, and then the other.
use Rattle.kn_cond.specs.Meanings.{literal_of}
use Rattle.kn_machine.specs.Ways.{known_of}
use Rattle.kn_step.proofs.OneMore.{none_first, none_second}
use Rattle.kn_step.proofs.deciding.sides_of.Goals as goal

pub returns-in_default : goal.returns-in_default
returns-in_default g c =
    let way = c.args.way.now in
    none_first c.args.budget (known_of way) (literal_of way.terms c.args.literal) c.in_ok-first.field-0 c.in_default.is c.in_ok-first.ensures

pub returns-in-None-2 : goal.returns-in-None-2
returns-in-None-2 g c =
    let way = c.args.way.now in
    none_second c.args.budget (known_of way) (literal_of way.terms c.args.literal) (literal_of way.terms c.negated.result) c.in_ok-second.field-0 c.in-None-2.is (c.negated.ensures.truth way.terms) c.in_ok-second.ensures
