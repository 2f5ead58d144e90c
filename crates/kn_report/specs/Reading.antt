-- What reading a report's text answers.
use Rattle.std.specs.Prelude.{◌≡◌, ℕ, suc, ◌<◌, ◌⊎◌, List, ◌++◌, length, ⊤, Ok, Err}
use Rattle.std.specs.declared.result.Result.{Result}
use Rattle.kn_model.specs.Reports.{Report}
use Rattle.kn_report.specs.Forms.{AreLines, IsReport, Fits, Names, failed_from}
use Rattle.kn_report.specs.Texts.{end_text, lines_text, line_count, report_text}
use Rattle.kn_report.specs.declared.reading.ReportFault.{ReportFault}
use Rattle.kn_report.specs.declared.reading.ReportFault.TheVariants as faults

-- A text begins with n lines that a report may begin with: with a head, some states, some dstates and some failures, each of its form given what stands above it, where the failures are of the first failed states.
pub record BeginsWithLines (text : List ℕ) (n : ℕ) : Type 0 where
  pub report : Report
  pub after : List ℕ
  pub lines : AreLines report
  pub fits : Fits report
  pub left : List ℕ
  pub failures : Names (failed_from 0 report.states) report.failures left
  pub text_is : text ≡ lines_text report ++ after
  pub number : n ≡ line_count report

-- the same with the last line of a report
pub record BeginsWithReport (text : List ℕ) (n : ℕ) : Type 0 where
  pub report : Report
  pub after : List ℕ
  pub is_report : IsReport report
  pub fits : Fits report
  pub text_is : text ≡ report_text report ++ after
  pub number : n ≡ suc (line_count report)

abbrev pub Begins : List ℕ → ℕ → Type 0
Begins text n = (n ≡ 0) ⊎ (BeginsWithLines text n ⊎ BeginsWithReport text n)

-- The text is no report's, and this is the first line that is not of its form given those above it; lines are counted from 1.
pub record IsFaultAt (text : List ℕ) (line : ℕ) : Type 0 where
  pub above : ℕ
  pub next : line ≡ suc above
  pub of_form : Begins text above
  pub wrong : Begins text line → ⊥
  pub no_report : (r : Report) → IsReport r → Fits r → text ≡ report_text r → ⊥

-- this report, unless memory is wanting
abbrev pub IsReadAs : Report → Result Report ReportFault → Type 0
IsReadAs r (Ok q) = q ≡ r
IsReadAs r (Err (faults.Line line)) = ⊥
IsReadAs r (Err (faults.Memory e)) = ⊤

-- this is the one report of the text, or the place of its fault
abbrev pub IsReadOf : List ℕ → Result Report ℕ → Type 0
IsReadOf text (Ok q) = (text ≡ report_text q) × IsReport q × ((r : Report) → IsReport r → Fits r → text ≡ report_text r → q ≡ r)
IsReadOf text (Err line) = IsFaultAt text line

-- this report, whose last line is the rest of the text; or the number of the line that is wrong, where so many lines stand above the last one
abbrev pub IsEnded : ℕ → Report → List ℕ → Result Report ℕ → Type 0
IsEnded above r rest (Ok q) = (q ≡ r) × (rest ≡ end_text r)
IsEnded above r rest (Err line) = ((line ≡ suc above) × ((after : List ℕ) → rest ≡ end_text r ++ after → ⊥)) ⊎ ((line ≡ suc (suc above)) × (after : List ℕ) × (rest ≡ end_text r ++ after) × (0 < length after))
