-- The lines copied so far.
use Rattle.std.proofs.Common.{◌≡◌, take}
use Rattle.kn_cnf.proofs.logs.copied.Given as goal

abbrev pub invariant-loop-line : goal.invariant-loop-line
invariant-loop-line l = l.copy.items ≡ take l.line-index l.lines
