-- One input more in front.
use Rattle.std.proofs.Common.{◌-◌, arith}
use Rattle.kn_blast.proofs.Laying.{blank, entry_at}
use Rattle.kn_solve.proofs.Early.{place_more}
use Rattle.kn_solve.proofs.trying.spelled.Goals as goal

pub digit-word-requires : goal.digit-word-requires
digit-word-requires c = (entry_at c.args.inputs.now (c.loop-place.place - 1) blank c.requires (omega (arith, c.loop-place-test.true, c.loop-place.invariant.within))).0

pub loop-place-preserved : goal.loop-place-preserved
loop-place-preserved c =
    let so_far = c.loop-place.invariant in
    let more = place_more c.args.inputs.now blank c.loop-place.place c.args.number c.loop-place.left c.digit-word.result.1 c.digit-word.result.0 _ _ c.loop-place-test.true so_far.within so_far.left c.digit-word.ensures.rest c.digit-word.ensures.word so_far.words c.in_ok-set.ensures.word c.in_ok-set.ensures.others in
    record {
      within = omega (arith, so_far.within);
      left = more.0;
      words = more.1;
    }
