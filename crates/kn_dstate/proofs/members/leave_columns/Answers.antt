use Rattle.std.proofs.Common.{ℕ, List, Vec, Global, map, take, ap, sym, ◌∙◌}
use Rattle.std.specs.Prelude.{◌||◌}
use Rattle.kn_dstate.specs.declared.number.StateNo.{StateNo}
use Rattle.kn_dstate.specs.Places.{is_in}
use Rattle.kn_dstate.specs.Members.{left_slot, is_among}
use Rattle.kn_dstate.proofs.Changing.{became-more, among_more, left-once}
use Rattle.kn_dstate.proofs.members.leave_columns.Goals as goal

numbers : Vec StateNo Global → List ℕ
numbers v = map (λ s. s.0) v.items

pub loop-column-preserved : goal.loop-column-preserved
unfolding numbers
loop-column-preserved c =
    became-more (left_slot c.args.d) (left-once c.args.d) _ (λ k. is_in k (map (λ (s : StateNo). s.0) c.deref.result.now)) _ c.args.states.now.slots c.loop-column.states.slots c.leave_column.new.states.slots
    (λ k. among_more numbers c.args.columns.now c.loop-column.column-index c.column-item.result k c.loop-column-test.true c.column-item.is ∙ ap (λ (l : List StateNo). is_among k (map numbers (take c.loop-column.column-index c.args.columns.now)) || is_in k (map (λ (s : StateNo). s.0) l)) (sym c.deref.ensures.value)) c.loop-column.invariant c.leave_column.ensures
