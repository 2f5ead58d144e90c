-- The inputs so far have the words of the part.
use Rattle.std.proofs.Common.{◌≡◌, ℕ, drop}
use Rattle.std.specs.Prelude.{if◌then◌else◌}
use Rattle.kn_term.specs.Terms.{listed}
use Rattle.kn_solve.specs.Parts.{is_among}
use Rattle.kn_solve.proofs.dividing.laid_over.Given as goal

abbrev pub invariant-loop-input : goal.invariant-loop-input
invariant-loop-input l = (n k : ℕ) → (if is_among (drop l.input-index l.inputs) n k then listed l.part n k else listed l.words n k) ≡ (if is_among l.inputs n k then listed l.part n k else listed l.earlier n k)
