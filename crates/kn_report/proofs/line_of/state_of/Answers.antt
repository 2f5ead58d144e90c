-- The words, each read.
use Rattle.kn_report.proofs.line_of.state_of.Goals as goal

pub returns : goal.returns
returns c = λ k x small fits is.
    let w = c.state_words.ensures k x small fits is in
    c.state_with.ensures x (c.u32_of.ensures x.node fits.node w.0) (c.in_ok-trace.ensures x.trace w.1) (c.outcome_of_word.ensures x.outcome fits.outcome w.2) (c.in_ok-standing.ensures x.standing fits.standing w.3)
