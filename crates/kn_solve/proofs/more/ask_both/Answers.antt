-- What the judge says of both conditions.
use Rattle.std.proofs.Common.{IfOk, subst}
use Rattle.kn_cond.specs.Conditions.{Query}
use Rattle.kn_cond.specs.Meanings.{condition_of}
use Rattle.kn_solve.specs.Verdicts.{IsJudged}
use Rattle.kn_solve.proofs.Further.{asked_of_both}
use Rattle.kn_solve.proofs.more.ask_both.Goals as goal

pub returns : goal.returns
returns g c =
    let ns = c.args.terms.now in
    subst (λ (q : Query). IfOk c.ask.result (IsJudged c.args.budget q)) (asked_of_both c.without_columns.ensures (condition_of ns c.args.c.now) (condition_of ns c.args.more.now) _ _ _ c.new-f.ensures c.in_ok-add.ensures.ok c.in_ok-add-2.ensures.ok) c.ask.ensures
