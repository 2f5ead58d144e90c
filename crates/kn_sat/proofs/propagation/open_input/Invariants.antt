-- The inputs so far are assigned.
use Rattle.kn_sat.specs.Trails.{latest}
use Rattle.kn_sat.specs.Propagating.{AreAssigned}
use Rattle.kn_sat.proofs.propagation.open_input.Given as goal

abbrev pub invariant-loop-var : goal.invariant-loop-var
invariant-loop-var l = AreAssigned l.var (latest (l.trail).entries)
