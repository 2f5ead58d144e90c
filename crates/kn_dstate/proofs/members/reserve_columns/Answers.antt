use Rattle.std.proofs.Common.{ℕ, List, Vec, Global, map, take, ap, sym, ◌∙◌}
use Rattle.std.specs.Prelude.{◌||◌}
use Rattle.kn_dstate.specs.declared.number.StateNo.{StateNo}
use Rattle.kn_dstate.specs.Places.{is_in}
use Rattle.kn_dstate.specs.Members.{is_among}
use Rattle.kn_dstate.proofs.Changing.{room-more, among_more}
use Rattle.kn_dstate.proofs.members.reserve_columns.Goals as goal

numbers : Vec StateNo Global → List ℕ
numbers v = map (λ s. s.0) v.items

pub returns-in_err-reserve_column-clause-grows : goal.returns-in_err-reserve_column-clause-grows
returns-in_err-reserve_column-clause-grows c = λ k more room. c.reserve_column.ensures.grows k more (c.loop-column.invariant.grows k more room)

pub loop-column-preserved : goal.loop-column-preserved
unfolding numbers
loop-column-preserved c = record {
  bare = c.reserve_column.ensures.bare ∙ c.loop-column.invariant.bare;
  grows = λ k more room. c.reserve_column.ensures.grows k more (c.loop-column.invariant.grows k more room);
  room = room-more c.args.more c.loop-column.states.slots c.reserve_column.new.states.slots _ (λ k. is_in k (map (λ (s : StateNo). s.0) c.deref.result.now)) _
      (λ k. among_more numbers c.args.columns.now c.loop-column.column-index c.column-item.result k c.loop-column-test.true c.column-item.is ∙ ap (λ (l : List StateNo). is_among k (map numbers (take c.loop-column.column-index c.args.columns.now)) || is_in k (map (λ (s : StateNo). s.0) l)) (sym c.deref.ensures.value))
      c.reserve_column.ensures.grows c.loop-column.invariant.room c.in_ok-reserve_column.ensures.room;
}
