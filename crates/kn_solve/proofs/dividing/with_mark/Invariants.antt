-- The literals so far.
use Rattle.std.proofs.Common.{◌≡◌, ◌++◌, drop}
use Rattle.std.specs.List.{filter}
use Rattle.kn_solve.specs.Parts.{marked}
use Rattle.kn_solve.proofs.dividing.with_mark.Given as goal

abbrev pub invariant-loop-literal : goal.invariant-loop-literal
invariant-loop-literal l = l.found ++ filter (marked l.marks) (drop l.literal-index l.literals) ≡ filter (marked l.marks) l.literals
