-- How a clause stands under an assignment.
use Rattle.std.specs.Prelude.{List}
use Rattle.kn_cnf.specs.declared.clauses.Lit.{Lit}
use Rattle.kn_cnf.specs.declared.states.ClauseState.{ClauseState}
use Rattle.kn_cnf.specs.declared.states.ClauseState.TheVariants as states
use Rattle.kn_cnf.specs.Units.{IsFalse, IsUnit}

-- the clause is neither false nor unit
abbrev pub IsCalm : List Lit → List Lit → Type 0
IsCalm ls c = (IsFalse ls c → ⊥) × ((l : Lit) → IsUnit ls c l → ⊥)

-- what it means that a clause stands so
abbrev pub IsState : List Lit → List Lit → ClauseState → Type 0
IsState ls c states.False = IsFalse ls c
IsState ls c (states.Unit l) = IsUnit ls c l
IsState ls c states.Other = IsCalm ls c
