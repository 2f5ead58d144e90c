-- Whether some bit so far is 1.
use Rattle.std.proofs.Common.{take, not}
use Rattle.std.specs.Prelude.{nat_eq}
use Rattle.kn_blast.specs.Spelling.{number, Grows, Has}
use Rattle.kn_blast.proofs.words.is_not_zero.Given as goal

abbrev pub invariant-loop-i : goal.invariant-loop-i
invariant-loop-i l = record {
  grows : Grows l.fn.aig l.aig;
  some : Has l.aig l.some (λ bits. not (nat_eq (number bits l.fn.aig (take l.i l.xs)) 0));
}
