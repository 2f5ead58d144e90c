-- One more bit.
use Rattle.kn_blast.proofs.Growing.{grows_twice}
use Rattle.kn_blast.proofs.Steps.{zero_more}
use Rattle.kn_blast.proofs.words.is_not_zero.Goals as goal

pub loop-i-preserved : goal.loop-i-preserved
loop-i-preserved c = record {
  grows = grows_twice _ _ _ c.loop-i.invariant.grows c.in_ok-some.ensures.grows;
  some = zero_more c.args.aig.now c.loop-i.aig c.either.new.aig c.args.xs.now c.loop-i.i _ c.loop-i.some c.in_ok-some.some c.loop-i.invariant.grows c.requires c.loop-i-test.true c.loop-i.invariant.some c.in_ok-some.ensures.edge;
}
