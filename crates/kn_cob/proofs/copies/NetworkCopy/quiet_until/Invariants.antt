-- Nothing is due of those so far before the tick so far.
use Rattle.std.proofs.Common.{ℕ, ◌<◌, map, take}
use Rattle.std.specs.Arc.{arc_value}
use Rattle.kn_cob.specs.Ticks.{IsIdle}
use Rattle.kn_cob.proofs.copies.NetworkCopy.quiet_until.Given as goal

abbrev pub invariant-loop-now : goal.invariant-loop-now
invariant-loop-now l = (tick : ℕ) → 0 < tick → tick < l.until → IsIdle tick (map arc_value (take l.now-index l.now-items))
