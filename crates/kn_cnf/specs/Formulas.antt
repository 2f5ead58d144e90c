-- Formulas and logs as lists.
use Rattle.std.specs.Prelude.{◌<◌, ℕ, List, Vec}
use Rattle.std.specs.declared.alloc.Global.{Global}
use Rattle.std.specs.List.{AllByRecursion}
use Rattle.kn_cnf.specs.declared.clauses.Lit.{Lit}

-- a formula: how many variables there are, and the clauses
pub record Formula : Type 0 where
  pub vars : ℕ
  pub clauses : List (List Lit)

-- a line of a log: a clause, and the numbers of the clauses that it follows from
pub record Step : Type 0 where
  pub clause : List Lit
  pub hints : List ℕ

-- the literals of a clause
abbrev pub items_of : Vec Lit Global → List Lit
items_of c = c.items

-- each literal's variable has a lower number
abbrev pub AreBelow : ℕ → List (List Lit) → Type 0
AreBelow n cs = AllByRecursion (AllByRecursion (λ (l : Lit). l.var < n)) cs
