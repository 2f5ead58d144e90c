-- The first entry of the input.
use Rattle.kn_blast.proofs.Laying.{blank, entry_found}
use Rattle.kn_blast.proofs.inputs.entry_of.Goals as goal

pub returns-then-is_of : goal.returns-then-is_of
returns-then-is_of c =
    entry_found c.args.entries.now c.loop-entry.entry-index c.args.node c.args.index blank c.is_of.result c.requires c.loop-entry-test.true c.is_of.ensures c.if-is_of.true c.loop-entry.invariant.width c.loop-entry.invariant.given
