-- One literal more, which is implied.
use Rattle.std.proofs.Common.{◌<◌, length, subst, sym}
use Rattle.kn_cond.specs.Meanings.{literal_of}
use Rattle.kn_machine.specs.Ways.{WayView, known_of}
use Rattle.kn_step.specs.Sides.{Implies}
use Rattle.kn_step.proofs.OneMore.{implied_way}
use Rattle.kn_step.proofs.deciding.decide_implied.Goals as goal

pub invariant_of-way-2 : goal.invariant_of-way-2
invariant_of-way-2 c =
    let w = c.way.inside in
    implied_way w.terms w.machine.registers w.machine.memory w.cond w.own w.literals c.add.new.self c.args.literal
    (subst (λ (v : WayView). c.args.literal.term.index < length v.terms) (sym c.way.view_is) c.requires.stands)
    (subst (λ (v : WayView). Implies (known_of v) (literal_of v.terms c.args.literal)) (sym c.way.view_is) c.requires.implied)
    c.in_ok-add.ensures.ok c.way.invariant
