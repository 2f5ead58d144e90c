-- The hints that are left.
use Rattle.std.proofs.Common.{◌≡◌, ◌<◌, ◌^◌, ℕ, List, length}
use Rattle.std.specs.Prelude.{flat_map}
use Rattle.std.specs.List.{AllByRecursion}
use Rattle.kn_unsat.specs.Text.{hint_word}
use Rattle.kn_unsat.proofs.Spelled.{LeftHints}
use Rattle.kn_unsat.proofs.reading.read_hints.Given as goal

abbrev pub invariant-loop-word : goal.invariant-loop-word
invariant-loop-word l = (hs : List ℕ) → AllByRecursion (λ (h : ℕ). h < 2 ^ 64) hs → l.text ≡ flat_map hint_word hs → LeftHints hs l.hints.items l.rest

abbrev pub decreases-loop-word : goal.decreases-loop-word
decreases-loop-word l = length l.rest
