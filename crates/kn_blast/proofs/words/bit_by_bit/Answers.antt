-- One more bit.
use Rattle.kn_blast.specs.Spelling.{digit}
use Rattle.kn_blast.proofs.Growing.{grows_twice}
use Rattle.kn_blast.proofs.Numbers.{spells_items}
use Rattle.kn_blast.proofs.Steps.{gate_more}
use Rattle.kn_blast.proofs.words.bit_by_bit.Goals as goal

pub loop-i-preserved : goal.loop-i-preserved
loop-i-preserved c = record {
  grows = grows_twice _ _ _ c.loop-i.invariant.grows c.in_ok-e.ensures.grows;
  word =
      let more = gate_more c.args.aig.now c.loop-i.aig c.edge_of_gate.new.aig c.args.xs.now c.args.ys.now c.loop-i.word.items c.loop-i.i _ _ c.loop-i.invariant.grows c.in_ok-e.ensures.grows c.requires.x c.requires.y c.requires.same c.loop-i-test.true
      (digit c.args.gate) c.in_ok-e.e c.loop-i.invariant.word c.in_ok-e.ensures.stands c.in_ok-e.ensures.digit in
      spells_items _ _ _ _ _ c.in_ok-push.ensures.items more;
}
