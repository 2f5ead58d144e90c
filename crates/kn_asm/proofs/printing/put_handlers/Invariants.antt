-- What is written, and what is left to write.
use Rattle.std.proofs.Common.{◌≡◌, ◌++◌, drop, string_bytes}
use Rattle.kn_asm.specs.Printing.{handler_lines}
use Rattle.kn_asm.proofs.printing.put_handlers.Given as goal

abbrev pub invariant-loop-number : goal.invariant-loop-number
invariant-loop-number l = string_bytes l.text ++ handler_lines l.index l.number (drop l.number l.handlers) ≡ string_bytes l.fn.text ++ handler_lines l.index 0 l.handlers
