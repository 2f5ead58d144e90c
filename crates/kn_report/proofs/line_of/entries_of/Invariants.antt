-- The entries that are left.
use Rattle.std.proofs.Common.{◌≡◌, length}
use Rattle.std.specs.Prelude.{flat_map}
use Rattle.kn_term.specs.Terms.{Valuation}
use Rattle.kn_report.specs.Forms.{InputsFit}
use Rattle.kn_report.specs.Texts.{further}
use Rattle.kn_report.proofs.Numbers.{LeftInputs}
use Rattle.kn_report.proofs.line_of.entries_of.Given as goal

abbrev pub invariant-loop-word : goal.invariant-loop-word
invariant-loop-word l = (a : Valuation) → InputsFit a → l.text ≡ flat_map further a → LeftInputs a l.inputs l.rest

abbrev pub decreases-loop-word : goal.decreases-loop-word
decreases-loop-word l = length l.rest
