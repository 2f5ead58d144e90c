-- One operand after the other.
use Rattle.std.proofs.Common.{arith}
use Rattle.kn_asm.specs.declared.operand.Operand.TheVariants as operands
use Rattle.kn_asm.specs.declared.meaning.Slot.TheVariants.{RegisterA}
use Rattle.kn_asm.specs.Operands.{operand_view}
use Rattle.kn_asm.proofs.Fields.{fill_more, fill_stops, fill_short, fill_long, fill_ends}
use Rattle.kn_asm.proofs.meaning.filled.Goals as goal

pub returns-then-index-operands : goal.returns-then-index-operands
returns-then-index-operands c = fill_short operand_view c.args.slots.now c.args.operands.now c.loop-index.index RegisterA c.loop-index.row _ c.loop-index-test.true c.if-index-operands.true c.loop-index.invariant

pub returns-in-None : goal.returns-in-None
returns-in-None c = fill_stops operand_view c.args.slots.now c.args.operands.now c.loop-index.index _ c.index-operands-index.result c.loop-index.row _ _ c.loop-index-test.true c.if-index-operands.false c.index-operands-index.is c.put.ensures c.in-None.is c.loop-index.invariant

pub loop-index-preserved : goal.loop-index-preserved
loop-index-preserved c = fill_more operand_view c.args.slots.now c.args.operands.now c.loop-index.index _ c.index-operands-index.result c.loop-index.row c.in-Some.next _ _ c.loop-index-test.true c.if-index-operands.false c.index-operands-index.is c.put.ensures c.in-Some.is c.loop-index.invariant

pub returns-then-operands-slots : goal.returns-then-operands-slots
returns-then-operands-slots c = fill_long operand_view c.args.slots.now c.args.operands.now c.loop-index.index (operands.Register 0) c.loop-index.row _ c.loop-index-test.false (omega (arith, c.if-operands-slots.true, c.loop-index.auto.index-end)) c.loop-index.invariant

pub returns : goal.returns
returns c = fill_ends operand_view c.args.slots.now c.args.operands.now c.loop-index.index c.loop-index.row _ c.loop-index-test.false (omega (arith, c.if-operands-slots.false, c.loop-index-test.false)) c.loop-index.invariant
