-- The first node is the constant.
use Rattle.kn_blast.proofs.Numbers.{constant_has}
use Rattle.kn_blast.proofs.words.constant.Goals as goal

pub returns : goal.returns
returns c = rw c.constant.ensures (constant_has c.args.aig.now c.args.value c.size.ensures.circuit)
