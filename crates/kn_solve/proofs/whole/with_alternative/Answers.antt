-- The choice by the alternative.
use Rattle.kn_solve.proofs.Stating.{if_each}
use Rattle.kn_solve.proofs.Making.{alternative_made}
use Rattle.kn_solve.proofs.whole.with_alternative.Goals as goal

pub returns-clause-term : goal.returns-clause-term
returns-clause-term c =
    if_each c.ite.result _ _ (λ r made. alternative_made c.args.terms.now c.konst.new.self c.with_condition.new.terms c.args.alternative.now c.literals.result.now c.in_ok-holds.holds c.in_ok-one.one c.args.other _ c.in_ok-one.ensures.grows c.in_ok-holds.ensures.grows c.requires.literals c.literals.ensures c.in_ok-one.ensures.term c.in_ok-one.ensures.stands c.in_ok-holds.ensures.term c.requires.stands made) c.ite.ensures.term
