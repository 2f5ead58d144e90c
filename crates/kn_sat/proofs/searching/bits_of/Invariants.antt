-- The values so far.
use Rattle.std.proofs.Common.{◌≡◌}
use Rattle.kn_cnf.specs.Encoding.{bits_from}
use Rattle.kn_sat.specs.Trails.{latest, bit}
use Rattle.kn_sat.proofs.searching.bits_of.Given as goal

abbrev pub invariant-loop-var : goal.invariant-loop-var
invariant-loop-var l = l.bits.items ≡ bits_from (bit (latest (l.trail).entries)) 0 l.var
