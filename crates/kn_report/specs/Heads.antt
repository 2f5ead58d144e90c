-- What the first line of a report says.
use Rattle.std.specs.Prelude.{◌≡◌, ℕ, ◌<◌, ◌^◌, List, ◌++◌, codes, Result, Ok, Err}
use Rattle.kn_model.specs.Reports.{Mapping, Report}
use Rattle.kn_report.specs.Texts.{head_body}

-- the mapping, ticks and nodes
pub record HeadView : Type 0 where
  pub mapping : Mapping
  pub ticks : ℕ
  pub nodes : ℕ

pub record HeadFits (h : HeadView) : Type 0 where
  pub ticks_fit : h.ticks < 2 ^ 32
  pub nodes_fit : h.nodes < 2 ^ 32

abbrev pub spelled_body : HeadView → List ℕ
spelled_body h = head_body h.mapping h.ticks h.nodes

abbrev pub spelled_head : HeadView → List ℕ
spelled_head h = spelled_body h ++ codes "\n"

-- the head of a report
abbrev pub head_in : Report → HeadView
head_in r = record { mapping = r.mapping; ticks = r.ticks; nodes = r.nodes }
