-- The bits so far.
use Rattle.std.proofs.Common.{take}
use Rattle.kn_word.specs.Words.{by_digits}
use Rattle.kn_blast.specs.Spelling.{number, digit, Grows, Spells}
use Rattle.kn_blast.proofs.words.bit_by_bit.Given as goal

abbrev pub invariant-loop-i : goal.invariant-loop-i
invariant-loop-i l = record {
  grows : Grows l.fn.aig l.aig;
  word : Spells l.aig l.word.items l.i (λ bits. by_digits (digit l.gate) l.i (number bits l.fn.aig (take l.i l.xs)) (number bits l.fn.aig (take l.i l.ys)));
}
