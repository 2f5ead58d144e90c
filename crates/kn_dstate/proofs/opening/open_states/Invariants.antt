use Rattle.std.proofs.Common.{◌≡◌, ℕ, ◌<◌, ◌≤◌, Some, None}
use Rattle.kn_dstate.specs.Graphs.{at, first_state}
use Rattle.kn_dstate.proofs.opening.open_states.Given as goal

abbrev pub invariant-loop-node : goal.invariant-loop-node
invariant-loop-node l = record {
  each : (n : ℕ) → n < l.node → (capacity : ℕ) × (at l.states.slots n ≡ Some (first_state n capacity));
  none : (n : ℕ) → l.node ≤ n → at l.states.slots n ≡ None;
}
