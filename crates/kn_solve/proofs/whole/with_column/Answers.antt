-- The choice by the column.
use Rattle.std.proofs.Common.{map}
use Rattle.kn_cond.specs.Meanings.{condition_of}
use Rattle.kn_solve.proofs.Stating.{if_each}
use Rattle.kn_solve.proofs.Making.{column_made}
use Rattle.kn_solve.proofs.whole.with_column.Goals as goal

pub returns-clause-term : goal.returns-clause-term
returns-clause-term c =
    if_each c.ite.result _ _ (λ r made. column_made c.args.terms.now c.some_alternative.new.terms c.konst.new.self (map (condition_of c.args.terms.now) c.args.column.now) c.in_ok-some.some c.in_ok-zero.zero c.args.then _ c.in_ok-some.ensures.grows c.in_ok-zero.ensures.grows c.in_ok-some.ensures.term c.in_ok-some.ensures.stands c.requires.stands c.in_ok-zero.ensures.term made) c.ite.ensures.term
