-- What a conflict rests on.
use Rattle.std.specs.Prelude.{◌≡◌, ◌≤◌, ◌⊎◌, ◌++◌, ◌∷◌, [], ℕ, Bool, true, List, Some, None, MatchOption, slice_get, slice_index_or, take, reverse}
use Rattle.std.specs.declared.option.Option.{Option}
use Rattle.kn_cnf.specs.declared.clauses.Lit.{Lit}
use Rattle.kn_cnf.specs.Formulas.{Step}
use Rattle.kn_cnf.specs.Units.{negated, valued, Has, IsFalse}
use Rattle.kn_sat.specs.declared.trail.Assigned.{Assigned}
use Rattle.kn_sat.specs.declared.trail.Reason.TheVariants as reasons
use Rattle.kn_sat.specs.Trails.{onto, latest, IsChain, undecided, reasons_of}
use Rattle.kn_sat.specs.Propagating.{IsConflict}

-- whether a variable is marked: one beyond the marks is
abbrev pub marked : List Bool → ℕ → Bool
marked ms q = slice_index_or ms q true

-- what was marked is, and each variable of the clause is
pub record AreMarked (old : List Bool) (c : List Lit) (new : List Bool) : Type 0 where
  pub kept : (q : ℕ) → marked old q ≡ true → marked new q ≡ true
  pub own : (m : Lit) → Has c m → marked new m.var ≡ true

-- the one variable's mark at most was taken back
abbrev pub IsUnmarked : List Bool → ℕ → List Bool → Type 0
IsUnmarked old var new = (q : ℕ) → (var ≡ q → ⊥) → marked old q ≡ true → marked new q ≡ true

-- at this place a decision stands, whose negation is one of these literals, and the others are negations of decisions
-- before it
pub record IsLatest (es : List Assigned) (us : List Lit) (place : ℕ) : Type 0 where
  pub entry : Assigned
  pub at : slice_get es place ≡ Some entry
  pub decides : entry.reason ≡ reasons.Decision
  pub has : Has us (negated entry.literal)
  pub others : (m : Lit) → Has us m → (m ≡ negated entry.literal) ⊎ Has (undecided (take place es)) m

-- a conflict's line says that the decisions of a chain are not all true, and the chain is what the conflict rests on; the
-- place is the latest decision's
pub record IsRest (cs : List (List Lit)) (es : List Assigned) (conflict : ℕ) (s : Step) (o : Option ℕ) : Type 0 where
  pub chain : List Assigned
  pub links : IsChain cs [] chain
  pub ends : IsConflict cs chain conflict
  pub is : s ≡ record { clause = undecided chain; hints = reasons_of chain ++ conflict ∷ [] }
  pub last : MatchOption o (undecided chain ≡ []) (IsLatest es (undecided chain))

-- the marked variables have the values that they have in front, and what is open there is open
pub record Agrees (ms : List Bool) (front ls : List Lit) : Type 0 where
  pub same : (q : ℕ) → marked ms q ≡ true → valued ls q ≡ valued front q
  pub opens : (q : ℕ) → valued front q ≡ None → valued ls q ≡ None

-- the chain so far, from a place on: it links to whatever agrees with the literals before this place
pub record Rests (cs : List (List Lit)) (es : List Assigned) (c : List Lit) (conflict place : ℕ) (ms : List Bool) (us : List Lit) (hs : List ℕ) (o : Option ℕ) : Type 0 where
  pub chain : List Assigned
  pub clause : reverse us ≡ undecided chain
  pub hints : reverse hs ≡ reasons_of chain ++ conflict ∷ []
  pub links : (ls : List Lit) → Agrees ms (latest (take place es)) ls → IsChain cs ls chain × IsFalse (onto ls chain) c
  pub last : MatchOption o (undecided chain ≡ []) (λ p. (place ≤ p) × IsLatest es (undecided chain) p)

-- the place of the latest decision, after an earlier one was found
abbrev pub sooner : ℕ → Option ℕ → Option ℕ
sooner place None = Some place
sooner place (Some p) = Some p
