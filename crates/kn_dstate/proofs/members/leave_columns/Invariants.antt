use Rattle.std.proofs.Common.{map, take}
use Rattle.kn_dstate.specs.Members.{Became, left_slot, is_among}
use Rattle.kn_dstate.proofs.members.leave_columns.Given as goal

abbrev pub invariant-loop-column : goal.invariant-loop-column
invariant-loop-column l = Became (left_slot l.d) (λ k. is_among k (map (λ c. map (λ x. x.0) c.items) (take l.column-index l.columns))) l.fn.states.slots l.states.slots
