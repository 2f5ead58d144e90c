-- What is left decides.
use Rattle.std.proofs.Common.{◌≡◌, drop}
use Rattle.std.specs.List.{list_any}
use Rattle.kn_asm.specs.Printing.{goes_to}
use Rattle.kn_asm.proofs.printing.is_target.Given as goal

abbrev pub invariant-loop-instr : goal.invariant-loop-instr
invariant-loop-instr l = list_any (goes_to l.index) (drop l.instr-index l.instrs) ≡ list_any (goes_to l.index) l.instrs
