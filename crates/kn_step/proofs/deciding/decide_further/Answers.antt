-- One literal more, which says more.
use Rattle.std.proofs.Common.{◌<◌, length, subst, sym, ap, ◌∙◌, List, [], ◌∷◌, ◌++◌}
use Rattle.kn_term.specs.declared.node.Literal.{Literal}
use Rattle.kn_machine.specs.Ways.{WayView}
use Rattle.kn_step.proofs.OneMore.{further_way}
use Rattle.kn_step.proofs.deciding.decide_further.Goals as goal

pub invariant_of-way-2 : goal.invariant_of-way-2
invariant_of-way-2 c =
    let w = c.way.inside in
    further_way w.terms w.machine.registers w.machine.memory w.cond c.add-2.new.self w.own w.literals c.add.new.self c.args.literal
    (subst (λ (v : WayView). c.args.literal.term.index < length v.terms) (sym c.way.view_is) c.requires.stands)
    c.in_ok-add-2.ensures.ok (c.in_ok-add.ensures.ok ∙ ap (λ (ls : List Literal). ls ++ c.args.literal ∷ []) c.in_ok-literals.ensures) c.way.invariant
