-- The head, the failed states and the end.
use Rattle.std.proofs.Common.{◌+◌, ℕ, ap, arith}
use Rattle.std.proofs.lemmas.Result.{IfOk-weaker}
use Rattle.kn_report.specs.Reading.{IsEnded, IsReadOf}
use Rattle.kn_report.specs.Sections.{AreSections}
use Rattle.kn_report.proofs.Assembly.{fault_first}
use Rattle.kn_report.proofs.Ending.{fault_left, form_of, ended_of}
use Rattle.kn_report.proofs.reading.read_bytes.Goals as goal

pub returns-in_default : goal.returns-in_default
returns-in_default c = fault_first c.args.text.now (rw c.in_default.is at c.in_ok-draft.ensures)

pub returns-then-failure_count-failed : goal.returns-then-failure_count-failed
returns-then-failure_count-failed c =
    let s : AreSections c.args.text.now c.in-Some.draft c.in-Some.failed c.in-Some.rest.now = rw c.in-Some.is at c.in_ok-draft.ensures in
    let count = c.failure_count.ensures in
    let few = c.if-failure_count-failed.true in
    fault_left c.args.text.now c.in-Some.draft c.in-Some.failed c.in-Some.rest.now s _ (omega (arith, count, few)) (ap (λ (n : ℕ). n + 1) c.line_count-above.ensures)

pub report_of-requires : goal.report_of-requires
report_of-requires c =
    let s : AreSections c.args.text.now c.in-Some.draft c.in-Some.failed c.in-Some.rest.now = rw c.in-Some.is at c.in_ok-draft.ensures in
    let count = c.failure_count.ensures in
    let all = c.if-failure_count-failed.false in
    form_of c.args.text.now c.in-Some.draft c.in-Some.failed c.in-Some.rest.now s (omega (arith, count, all))

pub returns : goal.returns
returns c =
    let s : AreSections c.args.text.now c.in-Some.draft c.in-Some.failed c.in-Some.rest.now = rw c.in-Some.is at c.in_ok-draft.ensures in
    let count = c.failure_count.ensures in
    let all = c.if-failure_count-failed.false in
    let form = form_of c.args.text.now c.in-Some.draft c.in-Some.failed c.in-Some.rest.now s (omega (arith, count, all)) in
    IfOk-weaker c.with_end.result (IsEnded c.line_count-above.result c.report_of.result c.in-Some.rest.now) (IsReadOf c.args.text.now)
    (λ q e. ended_of c.args.text.now c.in-Some.draft c.in-Some.failed c.in-Some.rest.now s c.line_count-above.result form c.line_count-above.ensures q (rw c.report_of.ensures at e))
    c.with_end.ensures
