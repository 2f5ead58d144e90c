-- Clauses under an assignment, which is a list of literals that are assigned true, the latest first.
use Rattle.std.specs.Prelude.{◌≡◌, ◌==◌, ◌<◌, ◌+◌, ◌++◌, ⊤, ℕ, length, slice_get, Bool, false, not, if◌then◌else◌, ◌⊎◌, List, [], ◌∷◌, Some, None}
use Rattle.std.specs.declared.option.Option.{Option}
use Rattle.std.specs.Option.{option_map}
use Rattle.kn_cnf.specs.declared.clauses.Lit.{Lit}
use Rattle.kn_cnf.specs.Formulas.{Formula}

-- the literal's negation
abbrev pub negated : Lit → Lit
negated l = record l { neg = not l.neg }

-- the value that is assigned to a variable, if there is one
abbrev pub valued : List Lit → ℕ → Option Bool
valued [] q = None
valued (l ∷ ls) q = if l.var == q then Some (not l.neg) else valued ls q

-- the value of a literal, if its variable is assigned
abbrev pub lit_value : List Lit → Lit → Option Bool
lit_value ls l = option_map (λ b. if l.neg then not b else b) (valued ls l.var)

-- the literal is one of the clause's
abbrev pub Has : List Lit → Lit → Type 0
Has [] l = ⊥
Has (m ∷ ms) l = (m ≡ l) ⊎ Has ms l

-- each literal of the clause is assigned false
abbrev pub IsFalse : List Lit → List Lit → Type 0
IsFalse ls c = (m : Lit) → Has c m → lit_value ls m ≡ Some false

-- the clause is unit: this literal of it is open, and each other one is assigned false
pub record IsUnit (ls : List Lit) (c : List Lit) (l : Lit) : Type 0 where
  pub has : Has c l
  pub opens : lit_value ls l ≡ None
  pub others : (m : Lit) → Has c m → (m ≡ l → ⊥) → lit_value ls m ≡ Some false

-- the clause is one of these
abbrev pub HasClause : List (List Lit) → List Lit → Type 0
HasClause cs c = (h : ℕ) × (slice_get cs h ≡ Some c)

-- unit propagation from an assignment: each of these literals, the latest first, was the open literal of a unit clause
abbrev pub IsPropagated : List (List Lit) → List Lit → List Lit → Type 0
IsPropagated cs start [] = ⊤
IsPropagated cs start (m ∷ ms) = (c : List Lit) × HasClause cs c × IsUnit (ms ++ start) c m × IsPropagated cs start ms

-- each variable with a lower number is assigned
abbrev pub IsCompleted : ℕ → List Lit → Type 0
IsCompleted n ls = (q : ℕ) → q < n → (b : Bool) × (valued ls q ≡ Some b)

-- some clause is false
abbrev pub IsRefuted : List (List Lit) → List Lit → Type 0
IsRefuted cs ls = (c : List Lit) × HasClause cs c × IsFalse ls c

-- the assignment of the variables from one on
abbrev pub assigned_from : ℕ → List Bool → List Lit
assigned_from i [] = []
assigned_from i (b ∷ bs) = record { var = i; neg = not b } ∷ assigned_from (i + 1) bs

-- each assignment of so many first variables is completed or refuted by unit propagation
abbrev pub IsDecided : ℕ → Formula → Type 0
IsDecided n f = (bits : List Bool) → length bits ≡ n → (added : List Lit) × IsPropagated f.clauses (assigned_from 0 bits) added × (IsCompleted f.vars (added ++ assigned_from 0 bits) ⊎ IsRefuted f.clauses (added ++ assigned_from 0 bits))
