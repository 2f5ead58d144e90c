-- The bits so far, and those that are left.
use Rattle.std.proofs.Common.{◌≡◌, ◌++◌, drop}
use Rattle.kn_replay.proofs.turn.bits_from.Given as goal

abbrev pub invariant-loop-bit : goal.invariant-loop-bit
invariant-loop-bit l = l.trace ++ drop l.bit-index l.bit-items ≡ l.bit-items
