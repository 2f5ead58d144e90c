-- What is written, and what is left to write.
use Rattle.std.proofs.Common.{◌≡◌, ◌++◌, drop, string_bytes}
use Rattle.kn_netfile.specs.Printing.{more_numbers}
use Rattle.kn_netfile.proofs.printing.put_more.Given as goal

abbrev pub invariant-loop-number : goal.invariant-loop-number
invariant-loop-number l = string_bytes l.text ++ more_numbers (drop l.number-index l.numbers) ≡ string_bytes l.fn.text ++ more_numbers l.numbers
