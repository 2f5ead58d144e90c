-- Fewer places are left.
use Rattle.std.proofs.Common.{◌-◌}
use Rattle.kn_machine.proofs.memory.+put.Given as goal

abbrev pub decreases-put : goal.decreases-put
decreases-put l = l.n - l.place
