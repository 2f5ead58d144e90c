-- The lowest bits of the input.
use Rattle.kn_blast.proofs.Growing.{if_each}
use Rattle.kn_blast.proofs.Tabling.{input_spells}
use Rattle.kn_blast.proofs.circuit.input_edges.Goals as goal

pub returns-in-Some-clause-value : goal.returns-in-Some-clause-value
returns-in-Some-clause-value c =
    if_each c.edges_before.result _ _ (λ v made narrow. input_spells c.args.aig.now v.items c.args.inputs.now c.args.node c.args.index c.args.width c.in-Some.bits.width c.in-Some.bits.lowest c.if-width-bits.true c.in-Some.ensures.4 made) c.edges_before.ensures
