-- A node without a mark has operands without one.
use Rattle.std.proofs.Common.{false, ◌∙◌, length, sym, subst}
use Rattle.kn_term.specs.declared.node.Node.{Node as NodeOf}
use Rattle.kn_term.specs.Nodes.{IsNodeAt, term_of}
use Rattle.kn_solve.specs.Parts.{ReadsOnly, is_among}
use Rattle.kn_solve.proofs.Sharing.{unmarked_both, unmarked_choice}
use Rattle.kn_solve.proofs.dividing.mark_of.Goals as goal

pub returns-in-Apply : goal.returns-in-Apply
returns-in-Apply c = λ ts marks none.
    let stands = subst (IsNodeAt (length c.args.marks.now)) c.in-Apply.is c.requires in
    subst (λ (n : NodeOf). ReadsOnly (is_among c.args.inputs.now) false (term_of ts n)) (sym c.in-Apply.is)
    (unmarked_both c.args.inputs.now ts c.args.marks.now c.in-Apply.field-0 c.in-Apply.x c.in-Apply.y _ _ marks stands.0 stands.1 (sym c.either.ensures ∙ none))

pub returns-in-Ite : goal.returns-in-Ite
returns-in-Ite c = λ ts marks none.
    let stands = subst (IsNodeAt (length c.args.marks.now)) c.in-Ite.is c.requires in
    subst (λ (n : NodeOf). ReadsOnly (is_among c.args.inputs.now) false (term_of ts n)) (sym c.in-Ite.is)
    (unmarked_choice c.args.inputs.now ts c.args.marks.now c.in-Ite.c c.in-Ite.x c.in-Ite.y _ _ _ _ marks stands.0 stands.1 stands.2 (sym c.either-in-Ite-2.ensures ∙ none) c.either-in-Ite.ensures)
