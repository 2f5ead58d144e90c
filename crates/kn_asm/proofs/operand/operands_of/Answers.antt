-- One text after the other.
use Rattle.std.proofs.Common.{Bor, List, ℕ}
use Rattle.kn_asm.specs.Operands.{operand_view}
use Rattle.kn_asm.proofs.Lists.{read_more, read_none, read_all}
use Rattle.kn_asm.proofs.operand.operands_of.Goals as goal

pub returns-in-None : goal.returns-in-None
returns-in-None c = read_none (λ (x : Bor (List ℕ)). x.now) operand_view c.args.texts.now c.loop-text.text-index _ c.loop-text.operands.items _ _ c.loop-text-test.true c.in_ok-operand_in.ensures c.in-None.is c.loop-text.invariant

pub loop-text-preserved : goal.loop-text-preserved
loop-text-preserved c = read_more (λ (x : Bor (List ℕ)). x.now) operand_view c.args.texts.now c.loop-text.text-index _ c.loop-text.operands.items _ _ c.in-Some.operand _ c.loop-text-test.true c.in_ok-operand_in.ensures c.in-Some.is c.in-Ok.ensures.items c.loop-text.invariant

pub returns : goal.returns
returns c = read_all (λ (x : Bor (List ℕ)). x.now) operand_view c.args.texts.now c.loop-text.text-index c.loop-text.operands.items _ c.loop-text-test.false c.loop-text.invariant
