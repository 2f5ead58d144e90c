use Rattle.std.proofs.Common.{◌≡◌, map, take}
use Rattle.std.specs.Arc.{arc_value}
use Rattle.kn_cob.specs.Closing.{configs_in}
use Rattle.kn_cob.proofs.copies.NetworkCopy.scenario.Given as goal

abbrev pub invariant-loop-now : goal.invariant-loop-now
invariant-loop-now l = map arc_value l.nodes.items ≡ configs_in (map arc_value (take l.now-index l.now-items))
