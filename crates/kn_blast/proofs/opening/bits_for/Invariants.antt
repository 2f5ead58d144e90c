-- The inputs so far.
use Rattle.std.proofs.Common.{◌≡◌, ◌+◌}
use Rattle.kn_aig.specs.Circuits.{Extends}
use Rattle.kn_aig.specs.Circuits.{inputs_of}
use Rattle.kn_blast.specs.Inputs.{HasOnlyInputs}
use Rattle.kn_blast.proofs.opening.bits_for.Given as goal

abbrev pub invariant-loop-bit : goal.invariant-loop-bit
invariant-loop-bit l = record {
  only : HasOnlyInputs l.aig;
  inputs : inputs_of l.aig ≡ inputs_of l.fn.aig + l._bit;
  grows : Extends l.fn.aig l.aig;
}
