-- One number more.
use Rattle.kn_cob.proofs.Reporting.{more_numbers}
use Rattle.kn_cob.proofs.making.numbers_from.Goals as goal

pub loop-place-preserved : goal.loop-place-preserved
loop-place-preserved c = rw c.in_ok-push.ensures.items (more_numbers c.loop-place.states.items _ c.args.count c.args.first c.loop-place.place c.loop-place-test.true c.loop-place.invariant)
