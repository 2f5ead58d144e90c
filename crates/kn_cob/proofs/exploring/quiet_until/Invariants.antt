-- Nothing is due in those so far before the tick so far.
use Rattle.std.proofs.Common.{take}
use Rattle.kn_cob.specs.Ticks.{AreIdleUntil}
use Rattle.kn_cob.proofs.exploring.quiet_until.Given as goal

abbrev pub invariant-loop-copy : goal.invariant-loop-copy
invariant-loop-copy l = AreIdleUntil l.until (take l.copy-index l.list)
