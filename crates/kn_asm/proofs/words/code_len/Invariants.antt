-- What is counted so far, and what is left.
use Rattle.std.proofs.Common.{◌≡◌, ◌+◌, drop}
use Rattle.std.specs.List.{prefix_len}
use Rattle.kn_asm.specs.Words.{is_code}
use Rattle.kn_asm.proofs.words.code_len.Given as goal

abbrev pub invariant-loop-index : goal.invariant-loop-index
invariant-loop-index l = l.index + prefix_len is_code (drop l.index l.bytes) ≡ prefix_len is_code l.bytes
