-- The sum of the bits so far.
use Rattle.std.proofs.Common.{take, ◌+◌}
use Rattle.kn_word.specs.Words.{one_if}
use Rattle.kn_aig.specs.Circuits.{value_of}
use Rattle.kn_blast.specs.Spelling.{number, Grows, Carries}
use Rattle.kn_blast.proofs.words.sum.Given as goal

abbrev pub invariant-loop-i : goal.invariant-loop-i
invariant-loop-i l = record {
  grows : Grows l.fn.aig l.aig;
  word : Carries l.aig l.word.items l.carry l.i (λ bits. number bits l.fn.aig (take l.i l.xs) + number bits l.fn.aig (take l.i l.ys) + one_if (value_of bits l.fn.aig l.fn.first));
}
