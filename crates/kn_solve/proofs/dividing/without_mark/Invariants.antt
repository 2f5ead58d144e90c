-- The literals so far.
use Rattle.std.proofs.Common.{◌≡◌, ◌++◌, not, drop}
use Rattle.std.specs.List.{filter}
use Rattle.kn_term.specs.declared.node.Literal.{Literal as Listed}
use Rattle.kn_solve.specs.Parts.{marked}
use Rattle.kn_solve.proofs.dividing.without_mark.Given as goal

abbrev pub invariant-loop-literal : goal.invariant-loop-literal
invariant-loop-literal l = l.found ++ filter (λ (x : Listed). not (marked l.marks x)) (drop l.literal-index l.literals) ≡ filter (λ (x : Listed). not (marked l.marks x)) l.literals
