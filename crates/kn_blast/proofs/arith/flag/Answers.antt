-- One edge and zeros.
use Rattle.kn_blast.proofs.Growing.{if_each}
use Rattle.kn_blast.proofs.Arithmetic.{spells_flag}
use Rattle.kn_blast.proofs.arith.flag.Goals as goal

pub returns : goal.returns
returns c = if_each c.behind_edge.result _ _ (λ v is. spells_flag c.args.aig.now v.items c.args.edge c.constant-zero.result c.requires c.constant-zero.ensures is) c.behind_edge.ensures
