-- A trace's text is text, and is read as that trace.
use Rattle.kn_report.proofs.Ascii.{trace_utf8}
use Rattle.kn_report.proofs.line_of.trace_of.Goals as goal

pub returns-in_default : goal.returns-in_default
returns-in_default c = λ bits is. absurd (c.in_default.ensures.cases.0 (trace_utf8 c.args.word.now bits is))
