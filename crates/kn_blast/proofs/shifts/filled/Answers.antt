-- One edge sixteen times.
use Rattle.kn_blast.proofs.Growing.{if_each}
use Rattle.kn_blast.proofs.Moving.{spells_filled}
use Rattle.kn_blast.proofs.shifts.filled.Goals as goal

pub returns : goal.returns
returns c = if_each c.from_slice.result _ _ (λ v is. spells_filled c.args.aig.now v.items c.args.edge c.requires is) c.from_slice.ensures.items
