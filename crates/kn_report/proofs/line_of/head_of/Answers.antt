-- The words of the head.
use Rattle.std.proofs.Common.{refl}
use Rattle.std.specs.Prelude.{codes, decimal}
use Rattle.kn_report.proofs.Fields.{head_mapping, head_ticks}
use Rattle.kn_report.proofs.line_of.head_of.Goals as goal

pub returns : goal.returns
returns c = λ h fits is.
    let a = c.word_behind.ensures _ _ (head_mapping h c.args.line.now is) in
    let b = c.word_behind-2.ensures _ _ (head_ticks h c.word_behind.result.1.now fits a.1) in
    let n = c.behind.ensures (codes " nodes ") (decimal h.nodes) refl b.1 in
    c.head_with.ensures h (c.mapping_of_word.ensures h.mapping a.0) (c.u32_of.ensures h.ticks fits.ticks_fit b.0) (c.u32_of-2.ensures h.nodes fits.nodes_fit n)
