use Rattle.std.proofs.Common.{◌≡◌, ℕ, ◌<◌, ◌≤◌, None}
use Rattle.kn_dstate.specs.Graphs.{at}
use Rattle.kn_dstate.proofs.graph.lowest_dstate.Given as goal

abbrev pub invariant-loop-key : goal.invariant-loop-key
invariant-loop-key l = (j : ℕ) → l.least ≤ j → j < l.key → at l.dstates.slots j ≡ None
