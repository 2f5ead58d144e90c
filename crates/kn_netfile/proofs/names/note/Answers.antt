-- All look-ups after an insertion.
use Rattle.std.proofs.Common.{arith}
use Rattle.std.proofs.lemmas.Map.Text.{text_keys}
use Rattle.kn_netfile.proofs.names.note.Goals as goal

pub returns-then-is_err-clause-err : goal.returns-then-is_err-clause-err
returns-then-is_err-clause-err c = grind (arith, text_keys)

pub returns-clause-ok : goal.returns-clause-ok
returns-clause-ok c = grind (arith, text_keys)
