-- The product with the bits so far.
use Rattle.std.proofs.Common.{take, ◌*◌, ◌%◌, ◌^◌}
use Rattle.kn_blast.specs.Spelling.{number, Grows, Spells}
use Rattle.kn_blast.proofs.arith.product.Given as goal

abbrev pub invariant-loop-i : goal.invariant-loop-i
invariant-loop-i l = record {
  grows : Grows l.fn.aig l.aig;
  total : Spells l.aig l.total.items 16 (λ bits. number bits l.fn.aig l.xs * number bits l.fn.aig (take l.i l.ys) % 65536);
  shifted : Spells l.aig l.shifted.items 16 (λ bits. number bits l.fn.aig l.xs * 2 ^ l.i % 65536);
}
