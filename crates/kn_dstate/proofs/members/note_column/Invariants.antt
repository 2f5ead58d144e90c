use Rattle.std.proofs.Common.{◌≡◌, map, take}
use Rattle.kn_dstate.specs.Places.{is_in}
use Rattle.kn_dstate.specs.Graphs.{shown}
use Rattle.kn_dstate.specs.Members.{Became, noted_slot}
use Rattle.kn_dstate.proofs.members.note_column.Given as goal

abbrev pub invariant-loop-s : goal.invariant-loop-s
invariant-loop-s l = record {
  slots : Became (noted_slot l.d) (λ k. is_in k (map (λ x. x.0) (take l.s-index l.column))) l.fn.states.slots l.states.slots;
  seen : shown l.states.slots ≡ shown l.fn.states.slots;
}
