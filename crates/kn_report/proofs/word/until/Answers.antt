-- One byte more that is not the one.
use Rattle.kn_report.proofs.Cut.{without_more}
use Rattle.kn_report.proofs.word.until.Goals as goal

pub loop-place-preserved : goal.loop-place-preserved
loop-place-preserved c = without_more c.args.byte c.args.text.now c.loop-place.place c.loop-place-test.true c.loop-place.invariant c.if-b-byte.false
