-- The columns behind the condition.
use Rattle.std.proofs.Common.{refl}
use Rattle.kn_solve.proofs.Stating.{if_each}
use Rattle.kn_solve.proofs.Making.{whole_made}
use Rattle.kn_solve.proofs.whole.whole.Goals as goal

pub returns-clause-term : goal.returns-clause-term
returns-clause-term c =
    if_each c.with_columns.result _ _ (λ r made. whole_made c.args.terms.now c.konst.new.self c.with_condition.new.terms c.args.condition.now c.literals.result.now c.args.columns.now c.args.columns.now c.in_ok-holds.holds c.in_ok-one.one _ c.in_ok-one.ensures.grows c.in_ok-holds.ensures.grows c.requires.condition c.requires.columns c.literals.ensures refl c.in_ok-one.ensures.term c.in_ok-holds.ensures.term made) c.with_columns.ensures.term
