use Rattle.std.proofs.Common.{◌∙◌}
use Rattle.kn_dstate.specs.Members.{is_among}
use Rattle.kn_dstate.proofs.Changing.{room-more, some_more}
use Rattle.kn_dstate.proofs.members.reserve_all.Goals as goal

pub returns-in_err-reserve_place-clause-grows : goal.returns-in_err-reserve_place-clause-grows
returns-in_err-reserve_place-clause-grows c = λ k more room. c.reserve_place.ensures.grows k more (c.loop-place.invariant.grows k more room)

pub loop-place-preserved : goal.loop-place-preserved
loop-place-preserved c = record {
  bare = c.reserve_place.ensures.bare ∙ c.loop-place.invariant.bare;
  grows = λ k more room. c.reserve_place.ensures.grows k more (c.loop-place.invariant.grows k more room);
  room = room-more c.args.more c.loop-place.states.slots c.reserve_place.new.states.slots _ (λ k. is_among k c.place-item.result.columns) _
      (λ k. some_more c.args.places.now c.loop-place.place-index c.place-item.result k c.loop-place-test.true c.place-item.is)
      c.reserve_place.ensures.grows c.loop-place.invariant.room c.in_ok-reserve_place.ensures.room;
}
