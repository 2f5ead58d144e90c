use Rattle.std.proofs.Common.{◌≡◌, ℕ, true, map, take}
use Rattle.kn_dstate.specs.Graphs.{at}
use Rattle.kn_dstate.specs.Members.{all_bare, HasMore, HasRoom, is_among}
use Rattle.kn_dstate.proofs.members.reserve_columns.Given as goal

abbrev pub invariant-loop-column : goal.invariant-loop-column
invariant-loop-column l = record {
  bare : all_bare l.states.slots ≡ all_bare l.fn.states.slots;
  grows : (k : ℕ) → HasMore (at l.fn.states.slots k) (at l.states.slots k);
  room : (k : ℕ) → is_among k (map (λ c. map (λ x. x.0) c.items) (take l.column-index l.columns)) ≡ true → HasRoom l.more (at l.states.slots k);
}
