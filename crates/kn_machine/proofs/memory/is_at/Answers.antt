use Rattle.std.proofs.lemmas.Result.{IfOk-weaker}
use Rattle.kn_word.specs.declared.Op.TheVariants as ops
use Rattle.kn_term.specs.Nodes.{term_at}
use Rattle.kn_term.specs.Terms.{Word}
use Rattle.kn_machine.proofs.Stepping.{compared}
use Rattle.kn_machine.proofs.memory.is_at.Goals as goal

pub returns-clause-term : goal.returns-clause-term
returns-clause-term c =
    IfOk-weaker c.apply.result _ _ (λ r h. compared c.args.way.now c.konst.new.self ops.Eq c.args.index.index c.in_ok-place.place.index (Word c.args.place) (term_at c.apply.new.self.terms r.index) c.in_ok-place.ensures.grows c.requires c.in_ok-place.ensures.term h) c.apply.ensures.term
