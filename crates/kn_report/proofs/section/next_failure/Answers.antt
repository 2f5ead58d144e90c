-- The failure line that the first line spells, where it is spelled as it stands and its pick is right.
use Rattle.std.proofs.Common.{true, false, sym, ◌∙◌}
use Rattle.kn_report.specs.Texts.{failure_body}
use Rattle.kn_report.specs.Views.{reach_of}
use Rattle.kn_report.proofs.Failures.{failure_none, failure_other, failure_unfit, failure_item}
use Rattle.kn_report.proofs.Stripped.{stripped, not_stripped, shorter}
use Rattle.kn_report.proofs.section.next_failure.Goals as goal

pub returns-in_default-clause-item : goal.returns-in_default-clause-item
returns-in_default-clause-item c =
    let u = c.until.ensures in
    failure_none c.args.dstates.now c.args.state c.args.text.now c.until.result.0.now c.until.result.1.now u.whole u.without u.begins _ c.in_ok-reach.ensures c.in_default.is

pub returns-then-not-has_place-clause-item : goal.returns-then-not-has_place-clause-item
returns-then-not-has_place-clause-item c =
    let u = c.until.ensures in
    failure_unfit c.args.dstates.now c.args.state c.args.text.now c.until.result.0.now c.until.result.1.now u.whole u.without u.begins _ c.in_ok-reach.ensures c.in-Some.reach c.in-Some.is
    (sym c.has_place.ensures ∙ c.if-not-has_place.true)

pub returns-in-None-clause-item : goal.returns-in-None-clause-item
returns-in-None-clause-item c =
    let u = c.until.ensures in
    failure_other c.args.dstates.now c.args.state c.args.text.now c.until.result.0.now c.until.result.1.now u.whole u.without u.begins _ c.in_ok-reach.ensures c.in-Some.reach c.in-Some.is
    (not_stripped c.args.text.now c.as_bytes.result.now _ (c.as_bytes.ensures.value ∙ c.in_ok-spelled.ensures.text) c.in-None.ensures.cases)

pub returns-clause-item : goal.returns-clause-item
returns-clause-item c =
    let u = c.until.ensures in
    let cut = c.in-Some-strip_prefix.ensures.cases in
    failure_item c.args.dstates.now c.args.state c.args.text.now c.until.result.0.now c.until.result.1.now u.whole u.without u.begins _ c.in_ok-reach.ensures c.in-Some.reach c.in-Some.is
    c.in-Some-strip_prefix.after.now c.in_ok-spelled.ensures.fits (sym c.has_place.ensures ∙ c.if-not-has_place.false)
    (stripped c.args.text.now c.as_bytes.result.now _ c.in-Some-strip_prefix.after.now (c.as_bytes.ensures.value ∙ c.in_ok-spelled.ensures.text) cut.0 cut.1)

pub returns-clause-few : goal.returns-clause-few
returns-clause-few c = shorter c.args.text.now c.as_bytes.result.now (failure_body (record { state = c.args.state; reach = reach_of c.in-Some.reach })) c.in-Some-strip_prefix.after.now (c.as_bytes.ensures.value ∙ c.in_ok-spelled.ensures.text) c.in-Some-strip_prefix.ensures.cases.2
