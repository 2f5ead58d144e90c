-- The pieces of a state's line.
use Rattle.std.proofs.Common.{◌≡◌, subst}
use Rattle.std.specs.Prelude.{codes, decimal, string_bytes}
use Rattle.kn_trace.specs.Text.{text_of}
use Rattle.kn_model.specs.Reports.{StateLine}
use Rattle.kn_report.specs.Texts.{outcome_text, standing_text, state_text}
use Rattle.kn_report.specs.Views.{outcome_of}
use Rattle.kn_report.proofs.Printed.{state_written}
use Rattle.kn_report.proofs.writing.state_line.Goals as goal

pub returns-clause-text : goal.returns-clause-text
returns-clause-text c =
    subst (λ (x : StateLine). string_bytes c.push_str-2.new.self ≡ state_text c.args.number x) c.line.view_is
    (state_written _ _ _ _ _ _ (codes "state ") (decimal c.args.number) (codes " node ") (decimal c.line.inside.node) (codes " trace ") (text_of c.line.inside.trace) (codes " outcome ") (outcome_text (outcome_of c.line.inside.outcome)) (codes " ") (standing_text c.line.inside.standing) (codes "\n")
    c.in_ok-text.ensures.ok c.in_ok-put_trace.ensures c.in_ok-put_outcome.ensures.text c.in_ok-push_str.ensures.bytes c.in_ok-put_standing.ensures.text c.in_ok-push_str-2.ensures.bytes)
