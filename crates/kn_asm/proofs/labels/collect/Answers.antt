-- Line after line.
use Rattle.std.proofs.Common.{◌+◌, ap, arith}
use Rattle.kn_asm.proofs.Places.{table_turn, table_end}
use Rattle.kn_asm.proofs.labels.collect.Goals as goal

pub loop-line-preserved : goal.loop-line-preserved
loop-line-preserved c = record {
  few = omega (arith, c.counted-index.ensures.most, c.loop-line.invariant.few);
  found = λ q. table_turn q _ _ _ c.loop-line.index _ c.loop-line.line-index _ c.args.lines.now c.loop-line-test.true c.line-item.is (ap (λ n. c.loop-line.index + n) c.counted-index.ensures.count) (c.in_ok-note_line.ensures q) (c.loop-line.invariant.found q);
}

pub returns : goal.returns
returns c = λ q. table_end q _ _ _ _ _ c.loop-line-test.false (c.loop-line.invariant.found q)
