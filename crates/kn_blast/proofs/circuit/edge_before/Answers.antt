-- The edge of an input.
use Rattle.kn_blast.proofs.Laying.{edge_has}
use Rattle.kn_blast.proofs.circuit.edge_before.Goals as goal

pub returns-then-place-width : goal.returns-then-place-width
returns-then-place-width c = edge_has c.args.aig.now c.args.lowest c.args.place c.args.width c.if-place-width.true c.requires.inputs
