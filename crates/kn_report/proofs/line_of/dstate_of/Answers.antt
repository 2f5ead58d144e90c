-- The columns behind the number.
use Rattle.std.proofs.Common.{refl}
use Rattle.std.specs.Prelude.{codes, flat_map}
use Rattle.std.proofs.lemmas.Result.{MatchResult-weaker}
use Rattle.kn_report.specs.Texts.{column_word}
use Rattle.kn_report.proofs.Fields.{dstate_number}
use Rattle.kn_report.proofs.line_of.dstate_of.Goals as goal

pub returns : goal.returns
returns c = MatchResult-weaker c.columns_of.result c.columns_of.ensures (λ o reads. λ k cs small fits some is.
    let a = c.word_behind.ensures _ _ (dstate_number k cs c.args.line.now small is) in
    reads cs fits some (c.behind.ensures (codes " columns") (flat_map column_word cs) refl a.1)) (λ e q. q)
