-- The word and the rest are where the text is cut.
use Rattle.std.proofs.Common.{◌++◌, sym, ◌∙◌}
use Rattle.kn_report.proofs.Cut.{cut_once}
use Rattle.kn_report.proofs.word.word_behind.Goals as goal

pub returns : goal.returns
returns c = λ word rest at.
    let b = c.behind.ensures at.front (word ++ rest) at.size at.whole in
    let u = c.until.ensures in
    cut_once 32 c.until.result.0.now c.until.result.1.now word rest u.without u.begins at.no_blank at.ends (sym u.whole ∙ b)
