-- The lines read so far, and what is left.
use Rattle.std.proofs.Common.{◌≡◌, ◌++◌, List, length}
use Rattle.std.specs.List.{AllByRecursion}
use Rattle.kn_cnf.specs.Formulas.{Step}
use Rattle.kn_unsat.specs.Text.{text_of, IsNumbered}
use Rattle.kn_unsat.proofs.reading.read_log.Given as goal

abbrev pub invariant-loop-rest : goal.invariant-loop-rest
invariant-loop-rest l = record {
  found : l.text ≡ text_of l.lines.items ++ l.rest;
  numbered : AllByRecursion IsNumbered l.lines.items;
  only : (log : List Step) → AllByRecursion IsNumbered log → l.text ≡ text_of log → (tail : List Step) × (log ≡ l.lines.items ++ tail) × AllByRecursion IsNumbered tail × (l.rest ≡ text_of tail);
}

abbrev pub decreases-loop-rest : goal.decreases-loop-rest
decreases-loop-rest l = length l.rest
