-- The least inputs of the condition meet the further literals too.
use Rattle.std.proofs.Common.{◌++◌, sym, subst, ◌∙◌}
use Rattle.kn_cond.specs.Conditions.{StandsFor, IsLeast, that}
use Rattle.kn_cond.specs.Meanings.{condition_of}
use Rattle.kn_solve.proofs.Further.{least_with_more}
use Rattle.kn_solve.proofs.more.told_already.Goals as goal

pub returns-then-branch : goal.returns-then-branch
returns-then-branch c = λ budget d stands.
    let more = condition_of c.args.terms.now c.args.more.now in
    let a = c.in-Inputs.least in
    let least : IsLeast (that d) a = subst (StandsFor budget (that d)) c.in-Inputs.is stands in
    subst (IsLeast (that (d ++ more))) (sym c.in_ok-copy-in-Inputs.ensures) (least_with_more c.without_columns.ensures c.least_stays.ensures d more a least (sym c.in_ok-holds-in-Inputs.ensures ∙ c.if-branch.true))
