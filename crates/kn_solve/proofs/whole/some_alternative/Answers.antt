-- One more alternative.
use Rattle.kn_built.proofs.BuiltLaws.{extends-twice}
use Rattle.kn_cond.specs.Meanings.{condition_of, StandIn}
use Rattle.kn_solve.specs.Wholes.{with_alternative}
use Rattle.kn_solve.proofs.Making.{taken_item, alternative_kept, each_item}
use Rattle.kn_solve.proofs.whole.some_alternative.Goals as goal

pub loop-alternative-preserved : goal.loop-alternative-preserved
loop-alternative-preserved c =
    let old = c.args.terms.now in
    let mid = c.loop-alternative.terms in
    let cs = c.args.column.now in
    let i = c.loop-alternative.alternative-index in
    let so_far = c.loop-alternative.invariant in
    record {
      term = taken_item with_alternative (condition_of old) cs i c.alternative-item.result _ _ _ _ c.alternative-item.is so_far.term c.loop-alternative-test.true (alternative_kept old mid _ _ _ so_far.grows (each_item (StandIn old) cs i c.alternative-item.result _ c.alternative-item.is c.requires c.loop-alternative-test.true) c.in_ok-some-2.ensures.term);
      stands = c.in_ok-some-2.ensures.stands;
      grows = extends-twice old mid c.with_alternative.new.terms so_far.grows c.in_ok-some-2.ensures.grows;
    }
