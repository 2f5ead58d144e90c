use Rattle.std.proofs.Common.{◌≡◌, map, take}
use Rattle.kn_dstate.specs.Graphs.{shown}
use Rattle.kn_dstate.specs.Members.{Became, noted_slot, is_among}
use Rattle.kn_dstate.proofs.members.note_columns.Given as goal

abbrev pub invariant-loop-column : goal.invariant-loop-column
invariant-loop-column l = record {
  slots : Became (noted_slot l.d) (λ k. is_among k (map (λ c. map (λ x. x.0) c.items) (take l.column-index l.columns))) l.fn.states.slots l.states.slots;
  seen : shown l.states.slots ≡ shown l.fn.states.slots;
}
