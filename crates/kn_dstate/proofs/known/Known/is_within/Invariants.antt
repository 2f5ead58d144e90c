use Rattle.std.proofs.Common.{◌≡◌, drop}
use Rattle.kn_dstate.specs.Places.{is_in}
use Rattle.kn_dstate.proofs.known.Known.is_within.Given as goal

abbrev pub invariant-loop-other : goal.invariant-loop-other
invariant-loop-other l = is_in l.d (drop l.other-index l.self.dstates) ≡ is_in l.d l.self.dstates
