-- All look-ups after an insertion.
use Rattle.std.proofs.Common.{arith}
use Rattle.std.proofs.lemmas.Map.Text.{text_keys}
use Rattle.kn_asm.proofs.labels.note.Goals as goal

pub returns : goal.returns
returns c = grind (arith, text_keys)
