-- The columns that are left.
use Rattle.std.proofs.Common.{◌≡◌, ◌<◌, ℕ, List, length}
use Rattle.std.specs.Prelude.{flat_map}
use Rattle.std.specs.List.{AllByRecursion}
use Rattle.kn_report.specs.Forms.{ColumnsFit}
use Rattle.kn_report.specs.Texts.{column_word}
use Rattle.kn_report.proofs.Numbers.{LeftColumns}
use Rattle.kn_report.proofs.line_of.columns_of.Given as goal

abbrev pub invariant-loop-word : goal.invariant-loop-word
invariant-loop-word l = (cs : List (List ℕ)) → ColumnsFit cs → AllByRecursion (λ (c : List ℕ). 0 < length c) cs → l.text ≡ flat_map column_word cs → LeftColumns cs l.lists.items l.rest

abbrev pub decreases-loop-word : goal.decreases-loop-word
decreases-loop-word l = length l.rest
