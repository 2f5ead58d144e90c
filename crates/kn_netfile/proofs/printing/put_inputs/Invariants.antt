-- What is written, and what is left to write.
use Rattle.std.proofs.Common.{◌≡◌, ◌++◌, drop, length, ◌-◌, string_bytes, flat_map}
use Rattle.kn_netfile.specs.Printing.{input_text}
use Rattle.kn_netfile.proofs.printing.put_inputs.Given as goal

abbrev pub invariant-loop-node : goal.invariant-loop-node
invariant-loop-node l = string_bytes l.text ++ flat_map input_text (drop l.place l.inputs) ≡ string_bytes l.fn.text ++ flat_map input_text l.inputs

abbrev pub decreases-loop-node : goal.decreases-loop-node
decreases-loop-node l = length l.inputs - l.place
