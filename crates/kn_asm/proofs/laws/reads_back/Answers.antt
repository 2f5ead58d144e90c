use Rattle.kn_asm.proofs.Again.{assembled_again}
use Rattle.kn_asm.proofs.laws.reads_back.Goals as goal

pub returns : goal.returns
returns c = assembled_again
