-- None of those so far is set to a tick before the first tick so far.
use Rattle.std.proofs.Common.{◌≡◌, ℕ, ◌<◌, take, None}
use Rattle.kn_node.specs.Due.{timer_from}
use Rattle.kn_node.proofs.due.first_timer.Given as goal

abbrev pub invariant-loop-timer : goal.invariant-loop-timer
invariant-loop-timer l = (tick : ℕ) → tick < l.first → (k : ℕ) → timer_from tick k (take l.timer-index l.timers) ≡ None
