-- What is joined, and what is left to join.
use Rattle.std.proofs.Common.{◌≡◌, ◌++◌, [], drop}
use Rattle.kn_cob.specs.Reports.{joint_of}
use Rattle.kn_cob.proofs.making.joint_of.Given as goal

abbrev pub invariant-loop-node : goal.invariant-loop-node
invariant-loop-node l = record {
  condition : l.joint.condition ++ joint_of (drop l.node l.scenario) ≡ joint_of l.scenario;
  columns : l.joint.columns ≡ [];
}
