-- What is laid out, and what is left.
use Rattle.std.proofs.Common.{◌≡◌, ◌≤◌, ◌-◌, ◌++◌, length, drop}
use Rattle.kn_aig.specs.Circuits.{Extends}
use Rattle.kn_aig.specs.Circuits.{inputs_of}
use Rattle.kn_blast.specs.Inputs.{bits_of, HasOnlyInputs, laid_out}
use Rattle.kn_blast.proofs.opening.laid_out.Given as goal

abbrev pub invariant-loop-node : goal.invariant-loop-node
invariant-loop-node l = record {
  only : HasOnlyInputs l.aig;
  out : l.entries.items ++ laid_out (inputs_of l.aig) (drop l.place l.widths) ≡ laid_out 0 l.widths;
  count : bits_of l.entries.items ≡ inputs_of l.aig;
  place : l.place ≤ length l.widths;
  grows : Extends l.fn.aig l.aig;
}

abbrev pub decreases-loop-node : goal.decreases-loop-node
decreases-loop-node l = length l.widths - l.place
