-- Whether the last line is the rest.
use Rattle.std.proofs.Common.{length, refl, sym, ◌∙◌}
use Rattle.std.proofs.lemmas.Bool.{eqb-true, eqb-false}
use Rattle.kn_report.specs.Texts.{end_text}
use Rattle.kn_report.proofs.Ending.{end_missing, end_more, end_alone}
use Rattle.kn_report.proofs.Stripped.{stripped, not_stripped}
use Rattle.kn_report.proofs.reading.with_end.Goals as goal

pub returns-in-None : goal.returns-in-None
returns-in-None c = end_missing c.args.above _ c.args.report c.args.rest.now refl (not_stripped c.args.rest.now c.as_bytes.result.now (end_text c.args.report) (c.as_bytes.ensures.value ∙ c.in_ok-end.ensures) c.in-None.ensures.cases)

pub returns-then-not-is_empty : goal.returns-then-not-is_empty
returns-then-not-is_empty c =
    let cut = c.in-Some.ensures.cases in
    end_more c.args.above _ c.args.report c.args.rest.now c.in-Some.after.now refl
    (stripped c.args.rest.now c.as_bytes.result.now (end_text c.args.report) c.in-Some.after.now (c.as_bytes.ensures.value ∙ c.in_ok-end.ensures) cut.0 cut.1)
    (eqb-false (length c.in-Some.after.now) 0 (sym c.is_empty.ensures ∙ c.if-not-is_empty.true))

pub returns-else-not-is_empty : goal.returns-else-not-is_empty
returns-else-not-is_empty c =
    let cut = c.in-Some.ensures.cases in (
      refl,
      end_alone c.args.report c.args.rest.now c.in-Some.after.now
          (stripped c.args.rest.now c.as_bytes.result.now (end_text c.args.report) c.in-Some.after.now (c.as_bytes.ensures.value ∙ c.in_ok-end.ensures) cut.0 cut.1)
          (eqb-true (length c.in-Some.after.now) 0 (sym c.is_empty.ensures ∙ c.if-not-is_empty.false)),
    )
