-- The literals that are left.
use Rattle.std.proofs.Common.{◌≡◌, ◌<◌, ◌^◌, ◌++◌, ℕ, List, length}
use Rattle.std.specs.Prelude.{flat_map}
use Rattle.std.specs.List.{AllByRecursion}
use Rattle.kn_cnf.specs.declared.clauses.Lit.{Lit}
use Rattle.kn_unsat.specs.Text.{literal_word, hints_text}
use Rattle.kn_unsat.proofs.Spelled.{LeftLiterals}
use Rattle.kn_unsat.proofs.reading.read_literals.Given as goal

abbrev pub invariant-loop-word : goal.invariant-loop-word
invariant-loop-word l = (c : List Lit) (hs : List ℕ) → AllByRecursion (λ (m : Lit). m.var < 2 ^ 64) c → l.text ≡ flat_map literal_word c ++ hints_text hs → LeftLiterals c hs l.clause.items l.rest

abbrev pub decreases-loop-word : goal.decreases-loop-word
decreases-loop-word l = length l.rest
