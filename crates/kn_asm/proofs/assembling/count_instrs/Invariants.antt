-- What is counted so far, and what is left.
use Rattle.std.proofs.Common.{◌≡◌, ◌≤◌, ◌+◌, drop}
use Rattle.kn_asm.specs.Assembling.{instrs_in}
use Rattle.kn_asm.proofs.assembling.count_instrs.Given as goal

abbrev pub invariant-loop-line : goal.invariant-loop-line
invariant-loop-line l = record {
  few : l.total ≤ l.line-index;
  count : l.total + instrs_in (drop l.line-index l.lines) ≡ instrs_in l.lines;
}
