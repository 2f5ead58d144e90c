-- The words of a state's line.
use Rattle.std.proofs.Common.{refl}
use Rattle.std.specs.Prelude.{codes}
use Rattle.kn_report.specs.Texts.{standing_text}
use Rattle.kn_report.proofs.Fields.{state_number, state_node, state_trace, state_outcome}
use Rattle.kn_report.proofs.line_of.state_words.Goals as goal

pub returns : goal.returns
returns c = λ k x small fits is.
    let a = c.word_behind.ensures _ _ (state_number k x small fits c.args.line.now is) in
    let n = c.word_behind-2.ensures _ _ (state_node k x small fits c.word_behind.result.1.now a.1) in
    let t = c.word_behind-3.ensures _ _ (state_trace k x small fits c.word_behind-2.result.1.now n.1) in
    let o = c.word_behind-4.ensures _ _ (state_outcome k x small fits c.word_behind-3.result.1.now t.1) in
    (n.0, t.0, o.0, c.behind.ensures (codes " ") (standing_text x.standing) refl o.1)
