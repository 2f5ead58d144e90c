-- The path from here is that of the way at the start.
use Rattle.std.proofs.Common.{◌≡◌, ◌-◌}
use Rattle.kn_model.specs.Terms.{words}
use Rattle.kn_model.specs.Paths.{ways}
use Rattle.kn_conc.specs.Ways.{here_of, way_of}
use Rattle.kn_conc.specs.Runs.{paths_of}
use Rattle.kn_conc.proofs.run.run.Given as goal

abbrev pub invariant-loop-done : goal.invariant-loop-done
invariant-loop-done l = record {
  way : paths_of l.inputs (ways (words l.inputs) (here_of l.net.network l.spot) l.net.network.limits.fuel (way_of l.initial.way)) ≡ paths_of l.inputs (ways (words l.inputs) (here_of l.net.network l.spot) (l.net.network.limits.fuel - l.done) (way_of l.way));
  node : l.way.node.node ≡ l.initial.way.node.node;
  trace : l.way.node.state.trace ≡ l.initial.way.node.state.trace;
}
