-- The parts of a failure.
use Rattle.std.proofs.Common.{refl}
use Rattle.std.specs.Prelude.{codes, decimal}
use Rattle.kn_report.proofs.Fields.{failed_kind, failed_pc}
use Rattle.kn_report.proofs.line_of.failed_of.Goals as goal

pub returns : goal.returns
returns c = λ k p t small few is.
    let u = c.until.ensures in
    let a = failed_kind k p t c.until.result.0.now c.until.result.1.now c.args.word.now is u.whole u.without u.begins in
    let rest = c.behind.ensures (codes "@") _ refl a.1 in
    let v = c.until-2.ensures in
    let b = failed_pc p t c.until-2.result.0.now c.until-2.result.1.now c.behind.result.now small rest v.whole v.without v.begins in
    let last = c.behind-2.ensures (codes "@") (decimal t) refl b.1 in
    c.failed_with.ensures k p t (c.kind_of_word.ensures k a.0) (c.u16_of.ensures p small b.0) (c.u32_of.ensures t few last)
