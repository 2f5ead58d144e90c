use Rattle.std.proofs.Common.{nat_eq, get_or}
use Rattle.kn_dstate.specs.declared.number.StateNo.{StateNo}
use Rattle.kn_dstate.specs.Members.{left_slot}
use Rattle.kn_dstate.proofs.Changing.{became-more, in_more, left-once}
use Rattle.kn_dstate.proofs.members.leave_column.Goals as goal

pub loop-s-preserved : goal.loop-s-preserved
loop-s-preserved c =
    let s = get_or c.args.column.now c.loop-s.s-index (record { 0 = 0 }) in
    became-more (left_slot c.args.d) (left-once c.args.d) _ (λ k. nat_eq s.0 k) _ c.args.states.now.slots c.loop-s.states.slots c.leave_at.new.states.slots
    (λ k. in_more (λ (x : StateNo). x.0) c.args.column.now c.loop-s.s-index (record { 0 = 0 }) k c.loop-s-test.true) c.loop-s.invariant c.leave_at.ensures
