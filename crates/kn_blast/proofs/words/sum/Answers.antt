-- One more bit.
use Rattle.kn_blast.proofs.Growing.{grows_twice, grows_same}
use Rattle.kn_blast.proofs.Numbers.{carries_items}
use Rattle.kn_blast.proofs.Steps.{sum_more, sum_begun}
use Rattle.kn_blast.proofs.words.sum.Goals as goal

pub loop-i-init : goal.loop-i-init
loop-i-init c = record { grows = grows_same _; word = sum_begun _ c.args.xs.now c.args.ys.now _ _ c.new-word.ensures.items c.requires.first }

pub loop-i-preserved : goal.loop-i-preserved
loop-i-preserved c = record {
  grows = grows_twice _ _ _ c.loop-i.invariant.grows c.in_ok-s.ensures.grows;
  word =
      let more = sum_more c.args.aig.now c.loop-i.aig c.full_sum.new.aig c.args.xs.now c.args.ys.now c.loop-i.word.items c.loop-i.i _ _ c.loop-i.invariant.grows c.in_ok-s.ensures.grows c.requires.x c.requires.y c.requires.same c.loop-i-test.true
      c.args.first c.loop-i.carry c.in_ok-s.s c.in_ok-s.t c.loop-i.invariant.word c.in_ok-s.ensures.sum c.in_ok-s.ensures.carry in
      carries_items _ _ _ _ _ _ c.in_ok-push.ensures.items more;
}
