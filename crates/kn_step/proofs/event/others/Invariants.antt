-- The ticks so far, and those of the rest.
use Rattle.std.proofs.Common.{◌≡◌, ◌++◌, drop, ℕ}
use Rattle.std.specs.Prelude.{filter, nat_eq, not}
use Rattle.kn_step.proofs.event.others.Given as goal

abbrev pub invariant-loop-other : goal.invariant-loop-other
invariant-loop-other l = l.left.items ++ filter (λ (x : ℕ). not (nat_eq x l.tick)) (drop l.other-index l.ticks) ≡ filter (λ (x : ℕ). not (nat_eq x l.tick)) l.ticks
