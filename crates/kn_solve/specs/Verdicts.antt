-- What the answers to a formula mean.
use Rattle.std.specs.Prelude.{◌≡◌, ⊤, ℕ}
use Rattle.kn_term.specs.Terms.{Valuation}
use Rattle.kn_cond.specs.Conditions.{Query, IsLeast, IsImpossible, IsFar}
use Rattle.kn_solve.specs.declared.asking.Verdict.{Verdict}
use Rattle.kn_solve.specs.declared.asking.Verdict.TheVariants as verdicts
use Rattle.kn_solve.specs.declared.judge.Judged.{Judged}
use Rattle.kn_solve.specs.declared.judge.Judged.TheVariants as judged

-- what holds of the inputs that meet it
abbrev pub OnMet : (Valuation → Type 0) → Verdict → Type 0
OnMet P (verdicts.Met a) = P a
OnMet P (verdicts.Never log) = ⊤
OnMet P (verdicts.Undecided leaves) = ⊤

-- what holds where no inputs meet it
abbrev pub OnNever : Type 0 → Verdict → Type 0
OnNever P (verdicts.Met a) = ⊤
OnNever P (verdicts.Never log) = P
OnNever P (verdicts.Undecided leaves) = ⊤

-- what holds of the count where the search ended before an answer
abbrev pub OnUndecided : (ℕ → Type 0) → Verdict → Type 0
OnUndecided P (verdicts.Met a) = ⊤
OnUndecided P (verdicts.Never log) = ⊤
OnUndecided P (verdicts.Undecided leaves) = P leaves

-- an answer to a question
abbrev pub IsVerdict : ℕ → Query → Verdict → Type 0
IsVerdict budget q (verdicts.Met a) = IsLeast q a
IsVerdict budget q (verdicts.Never log) = IsImpossible q
IsVerdict budget q (verdicts.Undecided leaves) = (leaves ≡ budget) × IsFar budget q

-- the same without the log
abbrev pub IsJudged : ℕ → Query → Judged → Type 0
IsJudged budget q (judged.Met a) = IsLeast q a
IsJudged budget q judged.Never = IsImpossible q
IsJudged budget q (judged.Undecided leaves) = (leaves ≡ budget) × IsFar budget q
