-- What stands behind the number.
use Rattle.std.proofs.Common.{refl}
use Rattle.std.specs.Prelude.{codes}
use Rattle.std.proofs.lemmas.Result.{MatchResult-weaker}
use Rattle.kn_report.specs.Texts.{reach_text}
use Rattle.kn_report.proofs.Fields.{failure_number}
use Rattle.kn_report.proofs.line_of.failure_of.Goals as goal

pub returns : goal.returns
returns c = MatchResult-weaker c.reach_of_text.result c.reach_of_text.ensures (λ o reads. λ f fits is.
    let a = c.word_behind.ensures _ _ (failure_number f c.args.line.now fits is) in
    reads f.reach fits.reach (c.behind.ensures (codes " ") (reach_text f.reach) refl a.1)) (λ e q. q)
