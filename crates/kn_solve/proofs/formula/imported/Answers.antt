-- One more literal.
use Rattle.kn_built.proofs.BuiltLaws.{extends-twice}
use Rattle.kn_solve.proofs.Stating.{imported_step, stand_step}
use Rattle.kn_solve.proofs.formula.imported.Goals as goal

pub loop-literal-preserved : goal.loop-literal-preserved
loop-literal-preserved c =
    let old = c.loop-literal.own in
    let new = c.import.new.self in
    let ls = c.loop-literal.literals in
    let after = c.add.new.self in
    let grows = c.in_ok-term.ensures.grows in
    record {
      same = imported_step old new c.args.terms.now ls after c.literals-literal-items.result.now c.loop-literal.literal-index _ c.in_ok-term.term c.in_ok-add.ensures.ok grows c.loop-literal.invariant.stand c.loop-literal.invariant.same c.loop-literal-test.true c.in_ok-term.ensures.term;
      stand = stand_step old new ls after _ c.in_ok-add.ensures.ok grows c.loop-literal.invariant.stand c.in_ok-term.ensures.stands;
      grows = extends-twice c.args.own.now old new c.loop-literal.invariant.grows grows;
    }
