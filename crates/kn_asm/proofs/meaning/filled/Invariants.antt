-- What is left to put decides.
use Rattle.std.proofs.Common.{◌≡◌, map, drop}
use Rattle.kn_asm.specs.Operands.{operand_view}
use Rattle.kn_asm.specs.Meaning.{filled_lem}
use Rattle.kn_asm.proofs.meaning.filled.Given as goal

abbrev pub invariant-loop-index : goal.invariant-loop-index
invariant-loop-index l = filled_lem (drop l.index l.slots) (map operand_view (drop l.index l.operands)) l.row ≡ filled_lem l.slots (map operand_view l.operands) l.fn.bare
