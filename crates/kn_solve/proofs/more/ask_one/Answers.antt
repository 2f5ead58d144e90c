-- What the judge says of the condition.
use Rattle.std.proofs.Common.{IfOk, subst}
use Rattle.kn_cond.specs.Conditions.{Query}
use Rattle.kn_cond.specs.Meanings.{condition_of}
use Rattle.kn_solve.specs.Verdicts.{IsJudged}
use Rattle.kn_solve.proofs.Further.{asked_of_one}
use Rattle.kn_solve.proofs.more.ask_one.Goals as goal

pub returns : goal.returns
returns g c =
    subst (λ (q : Query). IfOk c.ask.result (IsJudged c.args.budget q)) (asked_of_one c.without_columns.ensures (condition_of c.args.terms.now c.args.c.now) _ _ c.new-f.ensures c.in_ok-add.ensures.ok) c.ask.ensures
