-- Those so far were sent nothing.
use Rattle.std.proofs.Common.{map, take}
use Rattle.std.specs.Arc.{arc_value}
use Rattle.kn_cob.specs.Closing.{AreShut}
use Rattle.kn_cob.proofs.copies.NetworkCopy.is_shut.Given as goal

abbrev pub invariant-loop-now : goal.invariant-loop-now
invariant-loop-now l = AreShut (map arc_value (take l.now-index l.now-items))
