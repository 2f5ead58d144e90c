-- The numbers that are left.
use Rattle.std.proofs.Common.{◌≡◌, ◌<◌, ◌^◌, ◌++◌, ◌∷◌, ℕ, List, length}
use Rattle.std.specs.Prelude.{flat_map}
use Rattle.std.specs.Fmt.{decimal}
use Rattle.std.specs.List.{AllByRecursion}
use Rattle.kn_report.specs.Words.{EndsNumbers}
use Rattle.kn_report.proofs.Numbers.{LeftNumbers}
use Rattle.kn_report.proofs.line_of.numbers_behind.Given as goal

abbrev pub invariant-loop-word : goal.invariant-loop-word
invariant-loop-word l = (is more : List ℕ) → AllByRecursion (λ (i : ℕ). i < 2 ^ 64) is → EndsNumbers l.byte more → l.text ≡ flat_map (λ (i : ℕ). l.byte ∷ decimal i) is ++ more → LeftNumbers l.byte l.fn.start.items is more l.numbers.items l.rest

abbrev pub decreases-loop-word : goal.decreases-loop-word
decreases-loop-word l = length l.rest
