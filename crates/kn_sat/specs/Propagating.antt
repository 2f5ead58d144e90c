-- What propagation answers.
use Rattle.std.specs.Prelude.{◌≡◌, ◌<◌, ◌++◌, ℕ, Bool, List, map, length, slice_get, Some, None, []}
use Rattle.kn_cnf.specs.declared.clauses.Lit.{Lit}
use Rattle.kn_cnf.specs.Formulas.{Step}
use Rattle.kn_cnf.specs.Units.{valued, IsFalse}
use Rattle.kn_cnf.specs.States.{IsCalm}
use Rattle.kn_cnf.specs.Good.{AreGood}
use Rattle.kn_sat.specs.declared.trail.Assigned.{Assigned}
use Rattle.kn_cnf.specs.declared.states.ClauseState.{ClauseState}
use Rattle.kn_cnf.specs.declared.states.ClauseState.TheVariants as states
use Rattle.kn_sat.specs.declared.propagation.Scan.{Scan}
use Rattle.kn_sat.specs.declared.propagation.Scan.TheVariants as scans
use Rattle.kn_sat.specs.declared.propagation.Settled.{Settled}
use Rattle.kn_sat.specs.declared.propagation.Settled.TheVariants as settled
use Rattle.kn_sat.specs.Trails.{latest, IsTrail}

-- the clause with this number is false
abbrev pub IsConflict : List (List Lit) → List Assigned → ℕ → Type 0
IsConflict cs es h = (c : List Lit) × (slice_get cs h ≡ Some c) × IsFalse (latest es) c

-- each clause is neither false nor unit
abbrev pub AreCalm : List (List Lit) → List Assigned → Type 0
AreCalm cs es = (h : ℕ) (c : List Lit) → slice_get cs h ≡ Some c → IsCalm (latest es) c

-- a visit of the clause with this number: it is false, or it was unit and its literal was assigned, or nothing changed
abbrev pub IsVisited : List (List Lit) → ℕ → List Assigned → List Assigned → ClauseState → Type 0
IsVisited cs h old new states.False = IsConflict cs new h
IsVisited cs h old new (states.Unit l) = length old < length new
IsVisited cs h old new states.Other = (new ≡ old) × ((c : List Lit) → slice_get cs h ≡ Some c → IsCalm (latest new) c)

-- a visit of all clauses
abbrev pub IsScanned : List (List Lit) → List Assigned → List Assigned → Scan → Type 0
IsScanned cs old new (scans.Conflict h) = IsConflict cs new h
IsScanned cs old new scans.Grown = length old < length new
IsScanned cs old new scans.Calm = AreCalm cs new

-- each of the first variables is assigned
abbrev pub AreAssigned : ℕ → List Lit → Type 0
AreAssigned n ls = (i : ℕ) → i < n → (b : Bool) × (valued ls i ≡ Some b)

-- the first of the inputs that is open
pub record IsFirstOpen (n : ℕ) (ls : List Lit) (q : ℕ) : Type 0 where
  pub input : q < n
  pub opens : valued ls q ≡ None
  pub before : AreAssigned q ls

-- where unit propagation came to
abbrev pub IsSettled : List (List Lit) → ℕ → List Assigned → Settled → Type 0
IsSettled cs n es (settled.Conflict h) = IsConflict cs es h
IsSettled cs n es (settled.Open q) = IsFirstOpen n (latest es) q
IsSettled cs n es settled.Calm = AreAssigned n (latest es) × AreCalm cs es

-- the lines follow from the clauses, and the trail from the clauses and the lines
pub record Stands (n : ℕ) (cs : List (List Lit)) (lines : List Step) (es : List Assigned) : Type 0 where
  pub good : AreGood cs lines
  pub trail : IsTrail (cs ++ map (λ s. s.clause) lines) n [] es
