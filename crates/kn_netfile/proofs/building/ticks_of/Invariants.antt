-- The ticks so far, in front of those of the numbers that are left.
use Rattle.std.proofs.Common.{◌≡◌, ◌++◌, map, drop}
use Rattle.std.specs.Prelude.{min}
use Rattle.kn_netfile.specs.Keys.{tick_of}
use Rattle.kn_netfile.proofs.building.ticks_of.Given as goal

abbrev pub invariant-loop-number : goal.invariant-loop-number
invariant-loop-number l = l.ticks.items ++ map (λ n. min (tick_of n) 4095) (drop l.number-index l.numbers) ≡ map (λ n. min (tick_of n) 4095) l.numbers
