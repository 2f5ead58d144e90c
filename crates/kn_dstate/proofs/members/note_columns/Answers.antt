use Rattle.std.proofs.Common.{◌≡◌, ℕ, List, Vec, Global, map, take, true, ap, sym, ◌∙◌}
use Rattle.std.specs.Prelude.{◌||◌}
use Rattle.kn_dstate.specs.declared.number.StateNo.{StateNo}
use Rattle.kn_dstate.specs.Places.{is_in}
use Rattle.kn_dstate.specs.Members.{noted_slot, is_among}
use Rattle.kn_dstate.proofs.Changing.{became-more, among_more, in_among, noted-once, ready-became}
use Rattle.kn_dstate.proofs.members.note_columns.Goals as goal

numbers : Vec StateNo Global → List ℕ
numbers v = map (λ s. s.0) v.items

pub note_column-requires : goal.note_column-requires
unfolding numbers
note_column-requires c = λ k e.
    let inside : is_in k (numbers c.column-item.result) ≡ true = ap (λ (l : List StateNo). is_in k (map (λ s. s.0) l)) (sym c.deref.ensures.value) ∙ e in
    ready-became c.args.d (λ j. is_among j (map numbers (take c.loop-column.column-index c.args.columns.now))) c.args.states.now.slots c.loop-column.states.slots k c.loop-column.invariant.slots
    (c.requires k (in_among numbers c.args.columns.now c.loop-column.column-index c.column-item.result k c.loop-column-test.true c.column-item.is inside))

pub loop-column-preserved : goal.loop-column-preserved
unfolding numbers
loop-column-preserved c = record {
  slots = became-more (noted_slot c.args.d) (noted-once c.args.d) _ (λ k. is_in k (map (λ (s : StateNo). s.0) c.deref.result.now)) _ c.args.states.now.slots c.loop-column.states.slots c.note_column.new.states.slots
      (λ k. among_more numbers c.args.columns.now c.loop-column.column-index c.column-item.result k c.loop-column-test.true c.column-item.is ∙ ap (λ (l : List StateNo). is_among k (map numbers (take c.loop-column.column-index c.args.columns.now)) || is_in k (map (λ (s : StateNo). s.0) l)) (sym c.deref.ensures.value)) c.loop-column.invariant.slots c.note_column.ensures.slots;
  seen = c.note_column.ensures.seen ∙ c.loop-column.invariant.seen;
}
