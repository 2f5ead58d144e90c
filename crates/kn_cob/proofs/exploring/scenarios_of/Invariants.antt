use Rattle.std.proofs.Common.{◌≡◌, map, take}
use Rattle.kn_cob.specs.Closing.{configs_in}
use Rattle.kn_cob.proofs.exploring.scenarios_of.Given as goal

abbrev pub invariant-loop-copy : goal.invariant-loop-copy
invariant-loop-copy l = l.scenarios.items ≡ map configs_in (take l.copy-index l.copies)
