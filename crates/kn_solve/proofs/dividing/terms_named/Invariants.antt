-- The terms so far.
use Rattle.std.proofs.Common.{◌≡◌, ◌++◌, drop, map}
use Rattle.kn_term.specs.declared.node.Literal.{Literal as Listed}
use Rattle.kn_solve.proofs.dividing.terms_named.Given as goal

abbrev pub invariant-loop-literal : goal.invariant-loop-literal
invariant-loop-literal l = l.named.items ++ map (λ (x : Listed). x.term) (drop l.literal-index l.literals) ≡ map (λ (x : Listed). x.term) l.literals
