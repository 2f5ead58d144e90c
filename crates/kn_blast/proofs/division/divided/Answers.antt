-- One more step, and the end.
use Rattle.std.proofs.Common.{arith}
use Rattle.kn_blast.proofs.Growing.{grows_twice}
use Rattle.kn_blast.proofs.Dividing.{divides_more, divided_quotient, divided_rest}
use Rattle.kn_blast.proofs.division.divided.Goals as goal

pub loop-step-preserved : goal.loop-step-preserved
loop-step-preserved c = record {
  grows = grows_twice _ _ _ c.loop-step.invariant.grows c.in_ok-reaches.ensures.grows;
  divides = divides_more c.args.aig.now c.loop-step.aig c.division_step.new.aig c.args.xs.now c.args.ys.now c.loop-step.quotient.items c.loop-step.rest.items c.in_ok-reaches.next.items _ c.deref.result.now _ c.in_ok-reaches.reaches c.loop-step.step
      c.loop-step.invariant.grows c.in_ok-reaches.ensures.grows c.requires.x c.requires.y c.requires.many c.loop-step-test.true c.loop-step.invariant.divides c.deref.ensures.value c.in_ok-insert.ensures.items c.in_ok-reaches.ensures.reaches c.in_ok-reaches.ensures.left;
}

pub returns-clause-quotient : goal.returns-clause-quotient
returns-clause-quotient c = divided_quotient c.args.aig.now c.loop-step.aig c.args.xs.now c.args.ys.now c.loop-step.quotient.items c.loop-step.rest.items c.loop-step.step (omega (arith, c.loop-step-test.false, c.loop-step.auto.step-end)) c.loop-step.invariant.divides

pub returns-clause-rest : goal.returns-clause-rest
returns-clause-rest c = divided_rest c.args.aig.now c.loop-step.aig c.args.xs.now c.args.ys.now c.loop-step.quotient.items c.loop-step.rest.items c.loop-step.step (omega (arith, c.loop-step-test.false, c.loop-step.auto.step-end)) c.loop-step.invariant.divides
