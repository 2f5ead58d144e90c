-- One more bit.
use Rattle.kn_blast.specs.Spelling.{Grows}
use Rattle.kn_blast.proofs.Growing.{grows_twice, grows_made}
use Rattle.kn_blast.proofs.Numbers.{spells_items}
use Rattle.kn_blast.proofs.Steps.{choice_more}
use Rattle.kn_blast.proofs.words.choice.Goals as goal

pub loop-i-preserved : goal.loop-i-preserved
loop-i-preserved c =
    let g : Grows c.loop-i.aig c.ite.new.self = grows_made _ _ c.in_ok-e.ensures.grows c.in_ok-e.ensures.inputs in
    record {
      grows = grows_twice _ _ _ c.loop-i.invariant.grows g;
      word =
          let more = choice_more c.args.aig.now c.loop-i.aig c.ite.new.self c.args.xs.now c.args.ys.now c.loop-i.word.items c.loop-i.i _ _ c.loop-i.invariant.grows g c.requires.x c.requires.y c.requires.same c.loop-i-test.true
          c.args.c c.in_ok-e.e c.requires.c c.loop-i.invariant.word c.in_ok-e.ensures.stands c.in_ok-e.ensures.value in
          spells_items _ _ _ _ _ c.in_ok-push.ensures.items more;
    }
