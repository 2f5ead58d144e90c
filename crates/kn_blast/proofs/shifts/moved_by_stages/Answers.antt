-- One stage more.
use Rattle.std.proofs.Common.{◌<◌, length, arith, false, get_or}
use Rattle.kn_aig.specs.Circuits.{value_of}
use Rattle.kn_blast.proofs.Growing.{grows_same, grows_twice, longer}
use Rattle.kn_blast.proofs.Numbers.{AllStand-at}
use Rattle.kn_blast.proofs.Moving.{spells_still, stage_more, choice_seen, power_is}
use Rattle.kn_blast.proofs.shifts.moved_by_stages.Goals as goal

pub loop-stage-init : goal.loop-stage-init
loop-stage-init c = record { grows = grows_same _; word = spells_still c.args.aig.now c.args.xs.now _ c.args.way c.args.above c.requires.x c.requires.many c.in_ok-word.ensures.items }

pub choice-requires-clause-c : goal.choice-requires-clause-c
choice-requires-clause-c c =
    let within : c.loop-stage.stage < length c.args.ys.now = omega (arith, c.loop-stage-test.true, c.requires.four) in
    longer c.args.aig.now c.loop-stage.aig (get_or c.args.ys.now c.loop-stage.stage (record { node = 0; inverted = false })).node c.loop-stage.invariant.grows
    (AllStand-at c.args.aig.now c.args.ys.now c.loop-stage.stage (record { node = 0; inverted = false }) c.requires.y within)

pub loop-stage-preserved : goal.loop-stage-preserved
loop-stage-preserved c =
    let within : c.loop-stage.stage < length c.args.ys.now = omega (arith, c.loop-stage-test.true, c.requires.four) in
    record {
      grows = grows_twice _ _ _ c.loop-stage.invariant.grows c.in_ok-word-2.ensures.grows;
      word = stage_more c.args.aig.now c.loop-stage.aig c.choice.new.aig c.args.way c.args.xs.now c.args.ys.now c.loop-stage.word.items c.in_ok-further.further.items _ c.in_ok-word-2.word.items c.args.above _ c.loop-stage.stage _
          c.loop-stage.invariant.grows c.in_ok-word-2.ensures.grows c.requires.above c.requires.x c.requires.y c.requires.many within (power_is c.loop-stage.stage c.loop-stage-test.true) c.deref.ensures.value c.loop-stage.invariant.word c.in_ok-further.ensures
          (choice_seen c.loop-stage.aig c.choice.new.aig _ _ _ c.in_ok-further.further.items c.loop-stage.word.items (λ bits. value_of bits c.loop-stage.aig (get_or c.args.ys.now c.loop-stage.stage _)) 16 c.deref-in-loop-stage.ensures.value c.deref-in-loop-stage-2.ensures.value c.in_ok-further.ensures.many c.in_ok-word-2.ensures.word);
    }
