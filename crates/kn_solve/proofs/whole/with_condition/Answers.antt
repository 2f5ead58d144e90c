-- One more literal.
use Rattle.kn_built.proofs.BuiltLaws.{extends-twice}
use Rattle.kn_cond.specs.Meanings.{literal_of}
use Rattle.kn_solve.specs.Wholes.{with_literal}
use Rattle.kn_solve.proofs.Making.{taken_step, literal_kept, literal_stands}
use Rattle.kn_solve.proofs.whole.with_condition.Goals as goal

pub loop-literal-preserved : goal.loop-literal-preserved
loop-literal-preserved c =
    let old = c.args.terms.now in
    let mid = c.loop-literal.terms in
    let ls = c.args.literals.now in
    let i = c.loop-literal.literal-index in
    let so_far = c.loop-literal.invariant in
    record {
      term = taken_step with_literal (literal_of old) ls i _ _ _ _ so_far.term c.loop-literal-test.true (literal_kept old mid _ _ _ so_far.grows (literal_stands old ls i _ c.requires.literals c.loop-literal-test.true) c.in_ok-whole.ensures.term);
      stands = c.in_ok-whole.ensures.stands;
      grows = extends-twice old mid c.with_literal.new.terms so_far.grows c.in_ok-whole.ensures.grows;
    }
