-- The node of the sum stands for it.
use Rattle.std.proofs.Common.{ap, subst, ◌∙◌, sym}
use Rattle.kn_built.specs.Built.{Extends}
use Rattle.kn_term.specs.Terms.{ev, Reads}
use Rattle.kn_simplify.specs.Folded.{HasFoldedOperands}
use Rattle.kn_simplify.proofs.Additions.{node_of_sum}
use Rattle.kn_simplify.proofs.made.added.Goals as goal

pub returns-clause-value : goal.returns-clause-value
returns-clause-value c =
    let grows : Extends c.args.terms.now c.konst.new.self = subst (λ ns. Extends ns c.konst.new.self) c.in_ok-grown.ensures c.konst.ensures.grows in
    let same = node_of_sum c.args.terms.now c.konst.new.self c.args.sum c.in_ok-word.word grows c.requires c.in_ok-word.ensures.term in
    λ a. c.in_ok-made.ensures.value a ∙ ap (ev a) same

pub returns-clause-inputs : goal.returns-clause-inputs
returns-clause-inputs c =
    let grows : Extends c.args.terms.now c.konst.new.self = subst (λ ns. Extends ns c.konst.new.self) c.in_ok-grown.ensures c.konst.ensures.grows in
    let same = node_of_sum c.args.terms.now c.konst.new.self c.args.sum c.in_ok-word.word grows c.requires c.in_ok-word.ensures.term in
    λ n k width r. subst (Reads n k width) same (c.in_ok-made.ensures.inputs n k width r)

pub returns-clause-folded : goal.returns-clause-folded
returns-clause-folded c =
    let grows : Extends c.args.terms.now c.konst.new.self = subst (λ ns. Extends ns c.konst.new.self) c.in_ok-grown.ensures c.konst.ensures.grows in
    let same = node_of_sum c.args.terms.now c.konst.new.self c.args.sum c.in_ok-word.word grows c.requires c.in_ok-word.ensures.term in
    λ h. c.in_ok-made.ensures.folded (subst HasFoldedOperands (sym same) (h, tt))
