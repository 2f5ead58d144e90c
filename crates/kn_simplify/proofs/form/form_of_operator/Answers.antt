-- What no law does away with is needed.
use Rattle.std.proofs.Common.{ap}
use Rattle.kn_term.specs.declared.node.Ref.{Ref}
use Rattle.kn_term.specs.Nodes.{term_at}
use Rattle.kn_simplify.proofs.Folding.{top_needed, none_idle}
use Rattle.kn_simplify.proofs.form.form_of_operator.Goals as goal

pub returns-in-None-clause-form : goal.returns-in-None-clause-form
returns-in-None-clause-form c = top_needed c.args.op _ _ _ _ _ c.word_of-left.ensures c.word_of-right.ensures c.in-None.ensures

pub returns-in-None-clause-twice : goal.returns-in-None-clause-twice
returns-in-None-clause-twice c = λ e idle. none_idle c.args.op _ _ _ _ _ (ap (λ (r : Ref). term_at c.args.terms.now r.index) e) c.word_of-left.ensures c.word_of-right.ensures c.in-None.ensures (c.are_same-same.ensures.1 e) idle
