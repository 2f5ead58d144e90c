-- What is written, and what is left to write.
use Rattle.std.proofs.Common.{◌≡◌, ◌++◌, drop, string_bytes}
use Rattle.kn_asm.specs.Printing.{lines_text}
use Rattle.kn_asm.proofs.printing.put_lines.Given as goal

abbrev pub invariant-loop-index : goal.invariant-loop-index
invariant-loop-index l = string_bytes l.text ++ lines_text l.instrs l.handlers l.index (drop l.index l.instrs) ≡ string_bytes l.fn.text ++ lines_text l.instrs l.handlers 0 l.instrs
