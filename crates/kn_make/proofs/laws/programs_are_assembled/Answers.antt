use Rattle.kn_make.proofs.Assembles.{are_assembled}
use Rattle.kn_make.proofs.laws.programs_are_assembled.Goals as goal

pub returns : goal.returns
returns c = are_assembled
