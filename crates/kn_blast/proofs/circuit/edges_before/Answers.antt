-- One more bit.
use Rattle.kn_blast.proofs.Growing.{grows_same}
use Rattle.kn_blast.proofs.Numbers.{spells_push, spells_items}
use Rattle.kn_blast.proofs.Laying.{edges_step}
use Rattle.kn_blast.proofs.circuit.edges_before.Goals as goal

pub loop-place-preserved : goal.loop-place-preserved
loop-place-preserved c =
    let ns = c.args.aig.now in
    spells_items ns _ _ _ _ c.in_ok-push.ensures.items (spells_push ns ns c.loop-place.edges.items c.edge_before-edge.result c.loop-place.place _ _ (grows_same ns) c.loop-place.invariant c.edge_before-edge.ensures.stands
    (λ bits. edges_step bits c.args.lowest c.loop-place.place c.args.width _ (c.edge_before-edge.ensures.value bits)))
