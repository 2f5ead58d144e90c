-- The word of the bits so far.
use Rattle.std.proofs.Common.{◌≡◌}
use Rattle.kn_blast.specs.Inputs.{word_before}
use Rattle.kn_blast.proofs.inputs.word_before.Given as goal

abbrev pub invariant-loop-place : goal.invariant-loop-place
invariant-loop-place l = l.word ≡ word_before l.bits l.lowest l.place
