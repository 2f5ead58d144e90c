-- What the answers of a search mean.
use Rattle.std.specs.Prelude.{◌≡◌, ◌<◌, ◌^◌, ⊤, ℕ, Bool, List, length}
use Rattle.kn_cnf.specs.declared.clauses.Lit.{Lit}
use Rattle.kn_cnf.specs.Formulas.{Step}
use Rattle.kn_cnf.specs.Good.{Checks}
use Rattle.kn_sat.specs.declared.searching.Found.{Found}
use Rattle.kn_sat.specs.declared.searching.Found.TheVariants as found
use Rattle.kn_sat.specs.Order.{number, Extends, AreRefuted}

-- what holds of the bits of a model
abbrev pub OnModel : (List Bool → Type 0) → Found → Type 0
OnModel P (found.Model bits) = P bits.items
OnModel P (found.Closed log) = ⊤
OnModel P (found.Spent count) = ⊤

-- what holds of a log
abbrev pub OnClosed : (List Step → Type 0) → Found → Type 0
OnClosed P (found.Model bits) = ⊤
OnClosed P (found.Closed log) = P log
OnClosed P (found.Spent count) = ⊤

-- what holds of the number of conflicts
abbrev pub OnSpent : (ℕ → Type 0) → Found → Type 0
OnSpent P (found.Model bits) = ⊤
OnSpent P (found.Closed log) = ⊤
OnSpent P (found.Spent count) = P count

-- an answer over clauses
abbrev pub Answers : ℕ → List (List Lit) → ℕ → Found → Type 0
Answers n cs budget (found.Model bits) = (length bits.items ≡ n) × Extends n cs bits.items × AreRefuted n cs (number bits.items)
Answers n cs budget (found.Closed log) = Checks cs log
Answers n cs budget (found.Spent count) = (count ≡ budget) × (budget < 2 ^ n) × AreRefuted n cs budget
