-- The choice by the literal.
use Rattle.kn_solve.proofs.Stating.{if_each}
use Rattle.kn_solve.proofs.Making.{literal_true, literal_false}
use Rattle.kn_solve.proofs.whole.with_literal.Goals as goal

pub returns-then-literal-clause-term : goal.returns-then-literal-clause-term
returns-then-literal-clause-term c =
    if_each c.ite.result _ _ (λ r made. literal_true c.args.terms.now c.konst.new.self c.args.literal c.args.then c.in_ok-zero.zero _ c.konst.ensures.grows c.requires.literal c.requires.stands c.in_ok-zero.ensures.term c.if-literal.true made) c.ite.ensures.term

pub returns-else-literal-clause-term : goal.returns-else-literal-clause-term
returns-else-literal-clause-term c =
    if_each c.ite-else-literal.result _ _ (λ r made. literal_false c.args.terms.now c.konst.new.self c.args.literal c.args.then c.in_ok-zero.zero _ c.konst.ensures.grows c.requires.literal c.requires.stands c.in_ok-zero.ensures.term c.if-literal.false made) c.ite-else-literal.ensures.term
