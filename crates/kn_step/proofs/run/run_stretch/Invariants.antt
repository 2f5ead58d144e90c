use Rattle.std.proofs.Common.{◌-◌}
use Rattle.kn_machine.specs.Ways.{way_of}
use Rattle.kn_machine.specs.Effects.{here_of}
use Rattle.kn_step.specs.Given.{onward, Leads}
use Rattle.kn_step.specs.Turns.{IsOn}
use Rattle.kn_step.proofs.run.run_stretch.Given as goal

-- what is given from here is given of the way at the start
abbrev pub invariant-loop-done : goal.invariant-loop-done
invariant-loop-done g l = record {
  leads : Leads (onward (here_of l.net.network l.spot) (l.fuel - l.done) (way_of l.way)) (onward (here_of l.net.network l.spot) l.fuel (way_of l.initial.way));
  on : IsOn l.net.network l.spot l.initial.way l.way;
}
