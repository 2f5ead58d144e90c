-- The truth of clauses under values of the variables.
use Rattle.std.specs.Prelude.{◌≡◌, ◌||◌, ◌&&◌, ℕ, Bool, true, false, not, if◌then◌else◌, List, [], ◌∷◌}
use Rattle.kn_cnf.specs.declared.clauses.Lit.{Lit}

-- the literal is true
abbrev pub lit_true : (ℕ → Bool) → Lit → Bool
lit_true v l = if l.neg then not (v l.var) else v l.var

-- some literal is true
abbrev pub clause_true : (ℕ → Bool) → List Lit → Bool
clause_true v [] = false
clause_true v (l ∷ ls) = lit_true v l || clause_true v ls

-- each clause is true
abbrev pub all_true : (ℕ → Bool) → List (List Lit) → Bool
all_true v [] = true
all_true v (c ∷ cs) = clause_true v c && all_true v cs

-- the values meet the clauses
abbrev pub Meets : (ℕ → Bool) → List (List Lit) → Type 0
Meets v cs = all_true v cs ≡ true

-- no values meet the clauses
abbrev pub AreNeverMet : List (List Lit) → Type 0
AreNeverMet cs = (v : ℕ → Bool) → Meets v cs → ⊥
