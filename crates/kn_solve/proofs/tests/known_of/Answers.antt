-- What the judge says of the condition.
use Rattle.std.proofs.Common.{subst}
use Rattle.std.specs.Prelude.{MatchOption}
use Rattle.kn_cond.specs.Conditions.{Query, IsImpossible, StandsFor}
use Rattle.kn_cond.specs.Meanings.{condition_of}
use Rattle.kn_solve.proofs.Further.{asked_of_one}
use Rattle.kn_solve.proofs.tests.known_of.Goals as goal

pub returns : goal.returns
returns c =
    subst (λ (q : Query). MatchOption c.standing.result (IsImpossible q) (StandsFor c.args.budget q)) (asked_of_one c.without_columns.ensures (condition_of c.args.terms.now c.args.c.now) _ _ c.new-f.ensures c.in_ok-add.ensures.ok)
    (c.standing.ensures c.args.budget _ c.in_ok-judged.ensures)
