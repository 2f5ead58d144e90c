-- The values so far.
use Rattle.std.proofs.Common.{◌≡◌, ◌∷◌, ◌+◌, length, take}
use Rattle.kn_aig.specs.declared.gates.AigNode.TheVariants as nodes
use Rattle.kn_aig.specs.Circuits.{values_of}
use Rattle.kn_aig.proofs.aig.node_values.Given as goal

abbrev pub invariant-loop-node : goal.invariant-loop-node
invariant-loop-node l = record {
  values : l.values.items ≡ values_of l.bits (nodes.Constant ∷ take l.node-index l.nodes);
  count : length l.values.items ≡ 1 + l.node-index;
}
