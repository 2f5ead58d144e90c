-- The order of scenarios as they are kept: by their names.
use Rattle.std.specs.Prelude.{◌≡◌, ℕ, Bool, List, length}
use Rattle.std.specs.List.{AllByRecursion}
use Rattle.std.specs.declared.cmp.Ordering.{Ordering}
use Rattle.std.specs.Cmp.Lexicographic.{slice_cmp}
use Rattle.kn_node.specs.Views.{ConfigView}
use Rattle.kn_model.specs.Reports.{trace_cmp}

-- names node after node, each trace bit by bit, and what begins another one first
abbrev pub name_cmp : List (List Bool) → List (List Bool) → Ordering
name_cmp = slice_cmp trace_cmp

-- each scenario has so many nodes
abbrev pub AreLong : ℕ → List (List ConfigView) → Type 0
AreLong nodes list = AllByRecursion (λ (cs : List ConfigView). length cs ≡ nodes) list
