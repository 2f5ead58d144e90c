use Rattle.std.proofs.Common.{nat_eq, get_or, ◌∙◌}
use Rattle.kn_dstate.specs.declared.number.StateNo.{StateNo}
use Rattle.kn_dstate.proofs.Changing.{room-more, room-one, in_more}
use Rattle.kn_dstate.proofs.members.reserve_column.Goals as goal

pub returns-in_err-reserve_at-clause-grows : goal.returns-in_err-reserve_at-clause-grows
returns-in_err-reserve_at-clause-grows c = λ k more room. c.reserve_at.ensures.grows k more (c.loop-s.invariant.grows k more room)

pub loop-s-preserved : goal.loop-s-preserved
loop-s-preserved c =
    let s = get_or c.args.column.now c.loop-s.s-index (record { 0 = 0 }) in
    record {
      bare = c.reserve_at.ensures.bare ∙ c.loop-s.invariant.bare;
      grows = λ k more room. c.reserve_at.ensures.grows k more (c.loop-s.invariant.grows k more room);
      room = room-more c.args.more c.loop-s.states.slots c.reserve_at.new.states.slots _ (λ k. nat_eq s.0 k) _ (λ k. in_more (λ (x : StateNo). x.0) c.args.column.now c.loop-s.s-index (record { 0 = 0 }) k c.loop-s-test.true)
          c.reserve_at.ensures.grows c.loop-s.invariant.room (room-one c.args.more s.0 c.reserve_at.new.states.slots c.in_ok-reserve_at.ensures.room);
    }
