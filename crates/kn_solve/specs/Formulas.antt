-- A formula: a condition, and columns of alternatives.
use Rattle.std.specs.Prelude.{List, [], ◌∷◌, ◌++◌, map, Vec}
use Rattle.std.specs.declared.alloc.Global.{Global}
use Rattle.std.specs.List.{AllByRecursion}
use Rattle.kn_term.specs.declared.node.Node.{Node}
use Rattle.kn_term.specs.declared.node.Literal.{Literal as Listed}
use Rattle.kn_cond.specs.Conditions.{Condition, Query, that_with}
use Rattle.kn_cond.specs.Meanings.{condition_of, StandIn}

-- what a formula asks for: a condition, and in each column some alternative
pub record Asked : Type 0 where
  pub condition : Condition
  pub columns : List (List Condition)

-- what it asks of the inputs
abbrev pub query_of : Asked → Query
query_of f = that_with f.condition f.columns

-- the last column has one alternative more
abbrev pub to_last : Condition → List (List Condition) → List (List Condition)
to_last c [] = []
to_last c (cs ∷ []) = (cs ++ c ∷ []) ∷ []
to_last c (cs ∷ ds ∷ css) = cs ∷ to_last c (ds ∷ css)

-- alternatives of literals over a list of terms
abbrev pub column_of : List Node → Vec (List Listed) Global → List Condition
column_of ns column = map (condition_of ns) column.items

-- each literal's term stands in the list of terms
abbrev pub ColumnStands : List Node → Vec (List Listed) Global → Type 0
ColumnStands ns column = AllByRecursion (StandIn ns) column.items

-- in each column
abbrev pub ColumnsStand : List Node → List (Vec (List Listed) Global) → Type 0
ColumnsStand ns columns = AllByRecursion (ColumnStands ns) columns
