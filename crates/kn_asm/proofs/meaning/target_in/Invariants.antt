-- What is left decides.
use Rattle.std.proofs.Common.{◌≡◌, map, drop}
use Rattle.kn_asm.specs.Operands.{operand_view}
use Rattle.kn_asm.specs.Meaning.{target_in_lem}
use Rattle.kn_asm.proofs.meaning.target_in.Given as goal

abbrev pub invariant-loop-operand : goal.invariant-loop-operand
invariant-loop-operand l = target_in_lem (map operand_view (drop l.operand-index l.operands)) ≡ target_in_lem (map operand_view l.operands)
