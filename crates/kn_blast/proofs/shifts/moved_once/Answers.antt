-- One place.
use Rattle.std.proofs.Common.{ap, arith}
use Rattle.kn_aig.specs.Circuits.{value_of}
use Rattle.kn_blast.specs.Shifting.{comes_in}
use Rattle.kn_blast.proofs.Growing.{if_each}
use Rattle.kn_blast.proofs.Moving.{spells_up, spells_down}
use Rattle.kn_blast.proofs.Numbers.{has_is}
use Rattle.kn_blast.proofs.shifts.moved_once.Goals as goal

pub returns-in-Left : goal.returns-in-Left
returns-in-Left c =
    let edge = has_is c.args.aig.now c.incoming-edge.result _ _ c.incoming-edge.ensures (λ bits. ap (λ w. comes_in w (value_of bits c.args.aig.now c.args.above)) c.in-Left.is) in
    rw c.in-Left.is (if_each c.behind_edge.result _ _ (λ v is. spells_up c.args.aig.now c.args.xs.now v.items c.incoming-edge.result c.args.above c.requires.stand c.requires.many edge is) c.behind_edge.ensures)

pub returns-in-Right : goal.returns-in-Right
returns-in-Right c =
    let edge = has_is c.args.aig.now c.incoming-edge.result _ _ c.incoming-edge.ensures (λ bits. ap (λ w. comes_in w (value_of bits c.args.aig.now c.args.above)) c.in-Right.is) in
    rw c.in-Right.is (if_each c.before_edge.result _ _ (λ v is. spells_down c.args.aig.now c.args.xs.now v.items c.incoming-edge.result c.args.above _ (omega (arith, c.requires.many)) c.requires.stand c.requires.many edge is) c.before_edge.ensures)
