-- The sections of a report's text as they are read.
use Rattle.std.specs.Prelude.{◌≡◌, ℕ, ◌+◌, ◌≤◌, true, List, ◌++◌, length, Option, Some, None, slice_get}
use denote.Ref.{Bor}
use Rattle.kn_model.specs.Reports.{Report, StateLine, FailureLine}
use Rattle.kn_report.specs.Forms.{StateFits, ColumnsFit, FailureFits, are_columns, is_reach, failed_from}
use Rattle.kn_report.specs.Heads.{HeadView, HeadFits, spelled_head, head_in}
use Rattle.kn_report.specs.Texts.{state_text, dstate_text, failure_text, line_count}
use Rattle.kn_report.specs.Words.{IsItemRead, AreRead}

-- a state's line, whatever its number
abbrev pub IsState : ℕ → StateLine → Type 0
IsState k line = StateFits line

-- a dstate's line, where there are so many states and nodes
pub record IsDstate (states nodes k : ℕ) (columns : List (List ℕ)) : Type 0 where
  pub fits : ColumnsFit columns
  pub form : are_columns states nodes columns ≡ true

-- the line of this state, where these dstates stand above it
pub record IsFailureOf (dstates : List (List (List ℕ))) (number : Option ℕ) (f : FailureLine) : Type 0 where
  pub state_is : number ≡ Some f.state
  pub fits : FailureFits f
  pub form : is_reach dstates f.reach ≡ true

-- the k-th failure line, where these states failed
abbrev pub IsFailure : List (List (List ℕ)) → List ℕ → ℕ → FailureLine → Type 0
IsFailure dstates failed k f = IsFailureOf dstates (slice_get failed k) f

abbrev pub failure_at : ℕ → FailureLine → List ℕ
failure_at k f = failure_text f

-- a text's sections are those of this report, which may have no lines yet for the last of so many failed states; and this follows them
pub record AreSections (text : List ℕ) (r : Report) (failed : ℕ) (rest : List ℕ) : Type 0 where
  pub behind_head : List ℕ
  pub behind_states : List ℕ
  pub behind_dstates : List ℕ
  pub head : IsItemRead spelled_head HeadFits text (head_in r) behind_head
  pub states : AreRead state_text IsState behind_head r.states behind_states
  pub dstates : AreRead dstate_text (IsDstate (length r.states) r.nodes) behind_states r.dstates behind_dstates
  pub failures : AreRead failure_at (IsFailure r.dstates (failed_from 0 r.states)) behind_dstates r.failures rest
  pub count : failed ≡ length (failed_from 0 r.states)
  pub few : line_count r + length rest ≤ length text

-- the sections of a text, or that it has no head
abbrev pub OnSections : List ℕ → Option (Report × ℕ × Bor (List ℕ)) → Type 0
OnSections text None = (h : HeadView) (more : List ℕ) → HeadFits h → text ≡ spelled_head h ++ more → ⊥
OnSections text (Some p) = AreSections text p.0 p.1 p.2.now
