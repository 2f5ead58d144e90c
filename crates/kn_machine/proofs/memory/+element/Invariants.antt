-- Fewer places are left.
use Rattle.std.proofs.Common.{◌-◌}
use Rattle.kn_machine.proofs.memory.+element.Given as goal

abbrev pub decreases-element : goal.decreases-element
decreases-element l = l.n - l.place
