use Rattle.std.proofs.Common.{◌≡◌, ℕ, true, map, take}
use Rattle.kn_dstate.specs.Places.{is_in}
use Rattle.kn_dstate.specs.Graphs.{at}
use Rattle.kn_dstate.specs.Members.{all_bare, HasMore, HasRoom}
use Rattle.kn_dstate.proofs.members.reserve_column.Given as goal

abbrev pub invariant-loop-s : goal.invariant-loop-s
invariant-loop-s l = record {
  bare : all_bare l.states.slots ≡ all_bare l.fn.states.slots;
  grows : (k : ℕ) → HasMore (at l.fn.states.slots k) (at l.states.slots k);
  room : (k : ℕ) → is_in k (map (λ x. x.0) (take l.s-index l.column)) ≡ true → HasRoom l.more (at l.states.slots k);
}
