-- Good lines of a log, and logs that check.
use Rattle.std.specs.Prelude.{◌≡◌, ℕ, ⊤, List, [], ◌∷◌, ◌++◌, Some, slice_get, map, Vec}
use Rattle.std.specs.declared.alloc.Global.{Global}
use Rattle.kn_cnf.specs.declared.clauses.Lit.{Lit}
use Rattle.kn_cnf.specs.Formulas.{Step, items_of}
use Rattle.kn_cnf.specs.Units.{negated, Has, IsFalse, IsUnit}

-- the assignment after each literal of a clause is assigned false
abbrev pub falsified : List Lit → List Lit → List Lit
falsified ls [] = ls
falsified ls (m ∷ ms) = falsified (negated m ∷ ls) ms

-- the clause holds a literal together with its negation
abbrev pub HasBoth : List Lit → Type 0
HasBoth c = (l : Lit) × Has c l × Has c (negated l)

-- each hint but the last names a clause that is unit, whose open literal is then assigned true, and the last one names a
-- clause that is false
abbrev pub Refutes : List (List Lit) → List Lit → List ℕ → Type 0
Refutes cs ls [] = ⊥
Refutes cs ls (h ∷ []) = (c : List Lit) × (slice_get cs h ≡ Some c) × IsFalse ls c
Refutes cs ls (h ∷ k ∷ hs) = (c : List Lit) × (l : Lit) × (slice_get cs h ≡ Some c) × IsUnit ls c l × Refutes cs (l ∷ ls) (k ∷ hs)

-- a good line behind these clauses
pub record IsGood (cs : List (List Lit)) (s : Step) : Type 0 where
  pub apart : HasBoth s.clause → ⊥
  pub refuted : Refutes cs (falsified [] s.clause) s.hints

-- each line is good behind the clauses and the lines before it
abbrev pub AreGood : List (List Lit) → List Step → Type 0
AreGood cs [] = ⊤
AreGood cs (s ∷ ss) = IsGood cs s × AreGood (cs ++ s.clause ∷ []) ss

-- there is a last line, and its clause is empty
abbrev pub EndsEmpty : List Step → Type 0
EndsEmpty log = (front : List Step) × (hints : List ℕ) × (log ≡ front ++ record { clause = []; hints = hints } ∷ [])

-- the log checks against these clauses
pub record Checks (cs : List (List Lit)) (log : List Step) : Type 0 where
  pub good : AreGood cs log
  pub ends : EndsEmpty log

-- the clauses before a line: the formula's, and then those of the lines before it
abbrev pub before : List (Vec Lit Global) → List Step → List (List Lit)
before clauses lines = map items_of clauses ++ map (λ s. s.clause) lines
