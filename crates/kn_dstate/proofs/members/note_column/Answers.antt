use Rattle.std.proofs.Common.{map, take, nat_eq, ◌∙◌, get_or}
use Rattle.kn_dstate.specs.declared.number.StateNo.{StateNo}
use Rattle.kn_dstate.specs.Places.{is_in}
use Rattle.kn_dstate.specs.Members.{noted_slot}
use Rattle.kn_dstate.proofs.Changing.{became-more, in_more, get_in, noted-once, ready-became}
use Rattle.kn_dstate.proofs.members.note_column.Goals as goal

pub note_at-requires : goal.note_at-requires
note_at-requires c =
    let s = get_or c.args.column.now c.loop-s.s-index (record { 0 = 0 }) in
    ready-became c.args.d (λ k. is_in k (map (λ (x : StateNo). x.0) (take c.loop-s.s-index c.args.column.now))) c.args.states.now.slots c.loop-s.states.slots s.0 c.loop-s.invariant.slots
    (c.requires s.0 (get_in (λ (x : StateNo). x.0) c.args.column.now c.loop-s.s-index (record { 0 = 0 }) c.loop-s-test.true))

pub loop-s-preserved : goal.loop-s-preserved
loop-s-preserved c =
    let s = get_or c.args.column.now c.loop-s.s-index (record { 0 = 0 }) in
    record {
      slots = became-more (noted_slot c.args.d) (noted-once c.args.d) _ (λ k. nat_eq s.0 k) _ c.args.states.now.slots c.loop-s.states.slots c.note_at.new.states.slots
          (λ k. in_more (λ (x : StateNo). x.0) c.args.column.now c.loop-s.s-index (record { 0 = 0 }) k c.loop-s-test.true) c.loop-s.invariant.slots c.note_at.ensures.slots;
      seen = c.note_at.ensures.seen ∙ c.loop-s.invariant.seen;
    }
