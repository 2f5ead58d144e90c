-- All rise where those from the one before on do.
use Rattle.std.proofs.Common.{◌≡◌, ◌-◌, map, drop}
use Rattle.kn_netfile.specs.Keys.{is_rising, tick_of}
use Rattle.kn_netfile.proofs.nodes.is_rising.Given as goal

abbrev pub invariant-loop-index : goal.invariant-loop-index
invariant-loop-index l = is_rising (map tick_of (drop (l.index - 1) l.numbers)) ≡ is_rising (map tick_of l.numbers)
