-- How the literals so far stand.
use Rattle.std.proofs.Common.{take}
use Rattle.kn_sat.specs.Trails.{latest}
use Rattle.kn_cnf.specs.States.{IsState}
use Rattle.kn_sat.proofs.propagation.state_of.Given as goal

abbrev pub invariant-loop-l : goal.invariant-loop-l
invariant-loop-l l = IsState (latest (l.trail).entries) (take l.l-index l.clause) l.state
