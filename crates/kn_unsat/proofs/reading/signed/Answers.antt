-- A word with a minus in front.
use Rattle.std.proofs.Common.{◌∙◌}
use Rattle.kn_unsat.proofs.Spelled.{signed_minus}
use Rattle.kn_unsat.proofs.reading.signed.Goals as goal

pub returns-then-word-eq45 : goal.returns-then-word-eq45
returns-then-word-eq45 c = λ l small is. let s = signed_minus c.args.word.now l small is c.if-word-eq45.true in (s.0, c.split_at.ensures.back ∙ s.1)
