use Rattle.std.proofs.Common.{◌≡◌, ℕ, true, take}
use Rattle.kn_dstate.specs.Graphs.{at}
use Rattle.kn_dstate.specs.Members.{all_bare, HasMore, HasRoom, is_of_some}
use Rattle.kn_dstate.proofs.members.reserve_all.Given as goal

abbrev pub invariant-loop-place : goal.invariant-loop-place
invariant-loop-place l = record {
  bare : all_bare l.states.slots ≡ all_bare l.fn.states.slots;
  grows : (k : ℕ) → HasMore (at l.fn.states.slots k) (at l.states.slots k);
  room : (k : ℕ) → is_of_some k (take l.place-index l.places) ≡ true → HasRoom l.more (at l.states.slots k);
}
