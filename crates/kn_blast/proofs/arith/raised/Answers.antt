-- The highest bit is turned round.
use Rattle.kn_blast.proofs.Growing.{if_each}
use Rattle.kn_blast.proofs.Arithmetic.{spells_raised}
use Rattle.kn_blast.proofs.arith.raised.Goals as goal

pub returns : goal.returns
returns c = if_each c.before_edge.result _ _ (λ v is. spells_raised c.args.aig.now c.args.xs.now v.items _ c.negated.result c.requires.x c.requires.many c.negated.ensures is) c.before_edge.ensures
