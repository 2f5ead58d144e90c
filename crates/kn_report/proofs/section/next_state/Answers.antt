-- The state that the first line spells, where it is spelled as it stands.
use Rattle.std.proofs.Common.{sym, ◌∙◌}
use Rattle.kn_report.specs.Forms.{StateFits}
use Rattle.kn_report.specs.Texts.{state_body, state_text}
use Rattle.kn_report.proofs.Blanks.{state_without}
use Rattle.kn_report.proofs.Lines.{line_of_none, line_of_other, line_of_item}
use Rattle.kn_report.proofs.Stripped.{stripped, not_stripped, shorter}
use Rattle.kn_report.proofs.section.next_state.Goals as goal

pub returns-in_default-clause-item : goal.returns-in_default-clause-item
returns-in_default-clause-item c =
    let u = c.until.ensures in
    line_of_none (state_body c.args.number) StateFits (λ y good. state_without c.args.number y c.ranges.number.fits good) c.args.text.now c.until.result.0.now c.until.result.1.now u.whole u.without u.begins
    (λ y good e. sym c.in_default.is ∙ c.in_ok-state.ensures c.args.number y c.ranges.number.fits good e)

pub returns-in-None-clause-item : goal.returns-in-None-clause-item
returns-in-None-clause-item c =
    let u = c.until.ensures in
    line_of_other (state_body c.args.number) StateFits (λ y good. state_without c.args.number y c.ranges.number.fits good) c.args.text.now c.until.result.0.now c.until.result.1.now u.whole u.without u.begins
    c.in-Some.state
    (λ y good e. sym c.in-Some.is ∙ c.in_ok-state.ensures c.args.number y c.ranges.number.fits good e)
    (λ _. not_stripped c.args.text.now c.as_bytes.result.now (state_text c.args.number c.in-Some.state) (c.as_bytes.ensures.value ∙ c.in_ok-spelled.ensures.text) c.in-None.ensures.cases)

pub returns-clause-item : goal.returns-clause-item
returns-clause-item c =
    let u = c.until.ensures in
    let cut = c.in-Some-strip_prefix.ensures.cases in
    line_of_item (state_body c.args.number) StateFits (λ y good. state_without c.args.number y c.ranges.number.fits good) c.args.text.now c.until.result.0.now c.until.result.1.now u.whole u.without u.begins
    c.in-Some.state c.in-Some-strip_prefix.after.now
    (λ y good e. sym c.in-Some.is ∙ c.in_ok-state.ensures c.args.number y c.ranges.number.fits good e)
    c.in_ok-spelled.ensures.fits
    (stripped c.args.text.now c.as_bytes.result.now (state_text c.args.number c.in-Some.state) c.in-Some-strip_prefix.after.now (c.as_bytes.ensures.value ∙ c.in_ok-spelled.ensures.text) cut.0 cut.1)

pub returns-clause-few : goal.returns-clause-few
returns-clause-few c = shorter c.args.text.now c.as_bytes.result.now (state_body c.args.number c.in-Some.state) c.in-Some-strip_prefix.after.now (c.as_bytes.ensures.value ∙ c.in_ok-spelled.ensures.text) c.in-Some-strip_prefix.ensures.cases.2
