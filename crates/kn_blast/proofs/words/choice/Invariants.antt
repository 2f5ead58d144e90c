-- The bits so far.
use Rattle.std.proofs.Common.{take}
use Rattle.std.specs.Prelude.{if◌then◌else◌}
use Rattle.kn_aig.specs.Circuits.{value_of}
use Rattle.kn_blast.specs.Spelling.{number, Grows, Spells}
use Rattle.kn_blast.proofs.words.choice.Given as goal

abbrev pub invariant-loop-i : goal.invariant-loop-i
invariant-loop-i l = record {
  grows : Grows l.fn.aig l.aig;
  word : Spells l.aig l.word.items l.i (λ bits. if value_of bits l.fn.aig l.c then number bits l.fn.aig (take l.i l.xs) else number bits l.fn.aig (take l.i l.ys));
}
