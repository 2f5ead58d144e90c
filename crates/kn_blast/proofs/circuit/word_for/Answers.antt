-- The word of the node.
use Rattle.std.proofs.Common.{◌∙◌, subst}
use Rattle.kn_term.specs.Terms.{Term}
use Rattle.kn_blast.specs.Inputs.{Covers}
use Rattle.kn_blast.proofs.Tabling.{word_same}
use Rattle.kn_blast.proofs.circuit.word_for.Goals as goal

pub returns-clause-value : goal.returns-clause-value
returns-clause-value c =
    let covers = subst (λ (t : Term). Covers c.args.inputs.now t) c.node-node.ensures.term c.requires.covers in
    word_same c.word_of.new.aig c.args.inputs.now _ _ c.copy_from_slice.new.self c.in_ok-edges.edges.items (c.copy_from_slice.ensures.after ∙ c.deref.ensures.value) c.node-node.ensures.term
    (c.in_ok-edges.ensures.value c.args.terms.now (c.requires.operands c.node-node.result c.node-node.ensures.is) covers)
