-- Those so far are counted.
use Rattle.std.proofs.Common.{◌≡◌, ◌≤◌, take}
use Rattle.kn_replay.specs.Views.{states_in}
use Rattle.kn_replay.specs.Texts.{failed_in}
use Rattle.kn_replay.proofs.run.count_failed.Given as goal

abbrev pub invariant-loop-node : goal.invariant-loop-node
invariant-loop-node l = record {
  count : l.count ≡ failed_in (states_in (take l.node-index l.nodes));
  most : l.count ≤ l.node-index;
}
