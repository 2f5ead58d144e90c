-- The word so far.
use Rattle.kn_aig.specs.Circuits.{value_of}
use Rattle.kn_blast.specs.Spelling.{number, Spells}
use Rattle.kn_blast.specs.Shifting.{moved_word}
use Rattle.kn_blast.proofs.shifts.moved.Given as goal

abbrev pub invariant-loop-place : goal.invariant-loop-place
invariant-loop-place l = Spells l.aig l.word.items 16 (λ bits. moved_word l.way (value_of bits l.aig l.above) l._place (number bits l.aig l.xs))
