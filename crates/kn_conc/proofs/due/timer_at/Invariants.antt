use Rattle.std.proofs.Common.{◌≡◌, drop}
use Rattle.kn_model.specs.Due.{timer_from}
use Rattle.kn_conc.proofs.due.timer_at.Given as goal

abbrev pub invariant-loop-number : goal.invariant-loop-number
invariant-loop-number l = timer_from l.tick l.number (drop l.number l.timers) ≡ timer_from l.tick 0 l.timers
