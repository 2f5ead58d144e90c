-- What is read, and what is left to read.
use Rattle.std.proofs.Common.{◌≡◌, ◌++◌, map, drop}
use Rattle.std.specs.Option.{option_map}
use Rattle.kn_asm.specs.Operands.{operand_view, operands_of_lem}
use Rattle.kn_asm.proofs.operand.operands_of.Given as goal

abbrev pub invariant-loop-text : goal.invariant-loop-text
invariant-loop-text l =
    option_map (λ os. map operand_view l.operands.items ++ os) (operands_of_lem (map (λ x. x.now) (drop l.text-index l.texts))) ≡ operands_of_lem (map (λ x. x.now) l.texts)
