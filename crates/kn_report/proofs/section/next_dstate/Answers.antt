-- The dstate that the first line spells, where it is spelled as it stands and its columns are right.
use Rattle.std.proofs.Common.{◌≡◌, true, false, sym, ◌∙◌}
use Rattle.kn_report.specs.Sections.{IsDstate}
use Rattle.kn_report.specs.Texts.{dstate_body, dstate_text}
use Rattle.kn_report.proofs.Blanks.{dstate_without}
use Rattle.kn_report.proofs.Fitting.{columns_some}
use Rattle.kn_report.proofs.Lines.{line_of_none, line_of_other, line_of_item}
use Rattle.kn_report.proofs.Stripped.{stripped, not_stripped, shorter}
use Rattle.kn_report.proofs.section.next_dstate.Goals as goal

pub returns-in_default-clause-item : goal.returns-in_default-clause-item
returns-in_default-clause-item c =
    let u = c.until.ensures in
    line_of_none (dstate_body c.args.number) (IsDstate c.args.states c.args.nodes c.args.number) (λ y good. dstate_without c.args.number y c.ranges.number.fits good.fits) c.args.text.now c.until.result.0.now c.until.result.1.now u.whole u.without u.begins
    (λ y good e. sym c.in_default.is ∙ c.in_ok-columns.ensures c.args.number y c.ranges.number.fits good.fits (columns_some c.args.states c.args.nodes y good.form) e)

pub returns-then-not-has_columns-clause-item : goal.returns-then-not-has_columns-clause-item
returns-then-not-has_columns-clause-item c =
    let u = c.until.ensures in
    line_of_other (dstate_body c.args.number) (IsDstate c.args.states c.args.nodes c.args.number) (λ y good. dstate_without c.args.number y c.ranges.number.fits good.fits) c.args.text.now c.until.result.0.now c.until.result.1.now u.whole u.without u.begins
    c.in-Some.columns
    (λ y good e. sym c.in-Some.is ∙ c.in_ok-columns.ensures c.args.number y c.ranges.number.fits good.fits (columns_some c.args.states c.args.nodes y good.form) e)
    (λ good more from. let wrong : false ≡ true = sym (sym c.has_columns.ensures ∙ c.if-not-has_columns.true) ∙ good.form in cc)

pub returns-in-None-clause-item : goal.returns-in-None-clause-item
returns-in-None-clause-item c =
    let u = c.until.ensures in
    line_of_other (dstate_body c.args.number) (IsDstate c.args.states c.args.nodes c.args.number) (λ y good. dstate_without c.args.number y c.ranges.number.fits good.fits) c.args.text.now c.until.result.0.now c.until.result.1.now u.whole u.without u.begins
    c.in-Some.columns
    (λ y good e. sym c.in-Some.is ∙ c.in_ok-columns.ensures c.args.number y c.ranges.number.fits good.fits (columns_some c.args.states c.args.nodes y good.form) e)
    (λ _. not_stripped c.args.text.now c.as_bytes.result.now (dstate_text c.args.number c.in-Some.columns) (c.as_bytes.ensures.value ∙ c.in_ok-spelled.ensures.text) c.in-None.ensures.cases)

pub returns-clause-item : goal.returns-clause-item
returns-clause-item c =
    let u = c.until.ensures in
    let cut = c.in-Some-strip_prefix.ensures.cases in
    line_of_item (dstate_body c.args.number) (IsDstate c.args.states c.args.nodes c.args.number) (λ y good. dstate_without c.args.number y c.ranges.number.fits good.fits) c.args.text.now c.until.result.0.now c.until.result.1.now u.whole u.without u.begins
    c.in-Some.columns c.in-Some-strip_prefix.after.now
    (λ y good e. sym c.in-Some.is ∙ c.in_ok-columns.ensures c.args.number y c.ranges.number.fits good.fits (columns_some c.args.states c.args.nodes y good.form) e)
    (record { fits = c.in_ok-spelled.ensures.fits; form = sym c.has_columns.ensures ∙ c.if-not-has_columns.false })
    (stripped c.args.text.now c.as_bytes.result.now (dstate_text c.args.number c.in-Some.columns) c.in-Some-strip_prefix.after.now (c.as_bytes.ensures.value ∙ c.in_ok-spelled.ensures.text) cut.0 cut.1)

pub returns-clause-few : goal.returns-clause-few
returns-clause-few c = shorter c.args.text.now c.as_bytes.result.now (dstate_body c.args.number c.in-Some.columns) c.in-Some-strip_prefix.after.now (c.as_bytes.ensures.value ∙ c.in_ok-spelled.ensures.text) c.in-Some-strip_prefix.ensures.cases.2
