-- What holds of formulas and of what is known of them.
use Rattle.std.specs.Prelude.{◌≡◌, ℕ, true, List, [], ◌++◌}
use Rattle.kn_term.specs.Terms.{Valuation}
use Rattle.kn_cond.specs.Conditions.{Condition, Query, IsLeast, IsImpossible, IsLive, StandsFor, that}
use Rattle.kn_cond.specs.declared.standing.Standing.{Standing}
use Rattle.kn_solve.specs.Formulas.{Asked, query_of}

-- a formula without columns asks what its condition asks
abbrev pub WithoutColumns : Type 0
WithoutColumns = (c : Condition) → query_of (record { condition = c; columns = [] }) ≡ that c

-- a formula with further literals and columns
abbrev pub with_more : Asked → Condition → List (List Condition) → Asked
with_more f c columns = record { condition = f.condition ++ c; columns = f.columns ++ columns }

-- The least inputs that meet a formula are the least for further literals and columns too, where they meet these.
abbrev pub LeastStays : Type 0
LeastStays = (f : Asked) (c : Condition) (columns : List (List Condition)) (a : Valuation)
    → IsLeast (query_of f) a → (query_of (with_more f c columns)).meets a ≡ true → IsLeast (query_of (with_more f c columns)) a

-- A formula that no inputs meet is met by none with further literals and columns.
abbrev pub NeverStays : Type 0
NeverStays = (f : Asked) (c : Condition) (columns : List (List Condition)) → IsImpossible (query_of f) → IsImpossible (query_of (with_more f c columns))

-- What is kept with a standing is live.
abbrev pub StandingIsLive : Type 0
StandingIsLive = (budget : ℕ) (q : Query) (s : Standing) → StandsFor budget q s → IsLive budget q

-- The least inputs that meet a formula are the only ones that are.
abbrev pub LeastIsOne : Type 0
LeastIsOne = (f : Asked) (a b : Valuation) → IsLeast (query_of f) a → IsLeast (query_of f) b → a ≡ b
