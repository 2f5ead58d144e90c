-- The report is one of the scenarios of the run.
use Rattle.std.proofs.Common.{◌≤◌, List, length, ap, sym, subst, ◌∙◌, arith}
use Rattle.std.proofs.lemmas.Result.{IfOk-weaker}
use Rattle.kn_node.specs.Views.{ConfigView}
use Rattle.kn_model.specs.Reports.{Report, Gives}
use Rattle.kn_cob.specs.Reports.{AreLong, IsReportOf}
use Rattle.kn_cob.proofs.Told.{all_long}
use Rattle.kn_cob.proofs.Failing.{report_gives}
use Rattle.kn_cob.proofs.Reporting.{report_long}
use Rattle.kn_cob.proofs.making.report_of.Goals as goal

pub report_from-requires : goal.report_from-requires
report_from-requires c =
    let net = c.args.net.now.network in
    subst (AreLong (length net.nodes)) (sym (c.deref.ensures.value ∙ c.run.view_is)) (all_long net c.comes_later.ensures c.args.run.now c.requires.scenarios.members)

pub returns-clause-given : goal.returns-clause-given
returns-clause-given c =
    let net = c.args.net.now.network in
    let same = c.deref.ensures.value ∙ c.run.view_is in
    IfOk-weaker c.report_from.result (IsReportOf net c.deref.result.now) (λ (r : Report). Gives r net)
    (λ (r : Report) is. report_gives net c.comes_later.ensures c.args.run.now c.requires.scenarios r (subst (λ (list : List (List ConfigView)). IsReportOf net list r) same is)) c.report_from.ensures

pub returns-clause-within : goal.returns-clause-within
returns-clause-within c =
    let net = c.args.net.now.network in
    let same = ap length (c.deref.ensures.value ∙ c.run.view_is) in
    let few = c.requires.scenarios.few in
    IfOk-weaker c.report_from.result (IsReportOf net c.deref.result.now) (λ (r : Report). length r.dstates ≤ net.limits.dstates)
    (λ (r : Report) is. let long = report_long net c.deref.result.now r is in omega (arith, long, same, few)) c.report_from.ensures
