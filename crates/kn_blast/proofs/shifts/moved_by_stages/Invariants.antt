-- The stages so far.
use Rattle.std.proofs.Common.{take}
use Rattle.kn_aig.specs.Circuits.{value_of}
use Rattle.kn_blast.specs.Spelling.{number, Grows, Spells}
use Rattle.kn_blast.specs.Shifting.{moved_word}
use Rattle.kn_blast.proofs.shifts.moved_by_stages.Given as goal

abbrev pub invariant-loop-stage : goal.invariant-loop-stage
invariant-loop-stage l = record {
  grows : Grows l.fn.aig l.aig;
  word : Spells l.aig l.word.items 16 (λ bits. moved_word l.way (value_of bits l.fn.aig l.above) (number bits l.fn.aig (take l.stage l.ys)) (number bits l.fn.aig l.xs));
}
