-- The order of assignments, and what is known of them.
use Rattle.std.specs.Prelude.{◌≡◌, ℕ, ◌+◌, ◌^◌, ◌<◌, Bool, if◌then◌else◌, List, [], ◌∷◌, length}
use Rattle.kn_cnf.specs.declared.clauses.Lit.{Lit}
use Rattle.kn_cnf.specs.Formulas.{Step}
use Rattle.kn_cnf.specs.Truth.{Meets}
use Rattle.kn_cnf.specs.Encoding.{bits_from}
use Rattle.kn_sat.specs.declared.trail.Assigned.{Assigned}
use Rattle.kn_sat.specs.Trails.{latest, bit}
use Rattle.kn_sat.specs.Propagating.{AreAssigned, Stands}

-- the number that bits spell, the first one highest: as many assignments come before, false before true
abbrev pub number : List Bool → ℕ
number [] = 0
number (b ∷ bs) = (if b then 2 ^ length bs else 0) + number bs

-- bits of the first variables extend to values that meet the clauses
abbrev pub Extends : ℕ → List (List Lit) → List Bool → Type 0
Extends n cs bits = (v : ℕ → Bool) × (bits_from v 0 n ≡ bits) × Meets v cs

-- no assignment of the first variables whose number is below this one extends to values that meet the clauses
abbrev pub AreRefuted : ℕ → List (List Lit) → ℕ → Type 0
AreRefuted n cs below = (bits : List Bool) → length bits ≡ n → number bits < below → Extends n cs bits → ⊥

-- the number that the values of the first variables spell, an open one being false
abbrev pub spelled : ℕ → List Lit → ℕ
spelled n ls = number (bits_from (bit ls) 0 n)

-- the assignments that begin with the decisions were closed, and the inputs before the turned one are assigned
pub record IsClosed (n : ℕ) (cs : List (List Lit)) (lines : List Step) (old new : List Assigned) (q : ℕ) : Type 0 where
  pub stands : Stands n cs lines new
  pub later : spelled n (latest old) < spelled n (latest new)
  pub before : AreAssigned q (latest new)
