use Rattle.std.proofs.Common.{◌≡◌, drop}
use Rattle.kn_model.specs.Due.{has}
use Rattle.kn_conc.proofs.due.has.Given as goal

abbrev pub invariant-loop-other : goal.invariant-loop-other
invariant-loop-other l = has l.tick (drop l.other-index l.ticks) ≡ has l.tick l.ticks
