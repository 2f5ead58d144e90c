-- The inputs written so far, and those that are left.
use Rattle.std.proofs.Common.{◌≡◌, ◌++◌, string_bytes, flat_map, take, drop, length, ◌-◌}
use Rattle.std.specs.List.{AllByRecursion}
use Rattle.kn_report.specs.Forms.{GivenFits}
use Rattle.kn_report.specs.Texts.{further}
use Rattle.kn_report.proofs.writing.put_more_inputs.Given as goal

abbrev pub invariant-loop-node : goal.invariant-loop-node
invariant-loop-node l = record {
  text : string_bytes l.text ++ flat_map further (drop l.place l.inputs) ≡ string_bytes l.initial.text ++ flat_map further (drop 1 l.inputs);
  fits : AllByRecursion GivenFits (take l.place l.inputs);
}

abbrev pub decreases-loop-node : goal.decreases-loop-node
decreases-loop-node l = length l.inputs - l.place
