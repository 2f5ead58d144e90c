-- Literals that are assigned true, in the order of their assignment.
use Rattle.std.specs.Prelude.{◌≡◌, ◌⊎◌, ◌<◌, ◌≤◌, ◌+◌, ⊤, ℕ, zero, suc, Bool, true, false, List, [], ◌∷◌, ◌++◌, slice_get, slice_index_or, length, Some, None, unwrap_or}
use Rattle.std.specs.declared.option.Option.{Option}
use Rattle.kn_cnf.specs.declared.clauses.Lit.{Lit}
use Rattle.kn_cnf.specs.Units.{negated, valued, Has, IsUnit}
use Rattle.kn_sat.specs.declared.trail.Assigned.{Assigned}
use Rattle.kn_sat.specs.declared.trail.Reason.{Reason}
use Rattle.kn_sat.specs.declared.trail.Reason.TheVariants as reasons

-- a trail: how many variables there are, and the assigned literals
pub record Assignment : Type 0 where
  pub vars : ℕ
  pub entries : List Assigned

-- the literals in front of earlier ones, the latest first
abbrev pub onto : List Lit → List Assigned → List Lit
onto ls [] = ls
onto ls (e ∷ es) = onto (e.literal ∷ ls) es

abbrev pub latest : List Assigned → List Lit
latest es = onto [] es

-- each literal's variable is one of so many, and was open
abbrev pub AreOpened : ℕ → List Lit → List Assigned → Type 0
AreOpened n ls [] = ⊤
AreOpened n ls (e ∷ es) = ((e.literal).var < n) × (valued ls (e.literal).var ≡ None) × AreOpened n (e.literal ∷ ls) es

-- the values are those that are assigned, and None beyond
pub record AreValues (vs : List (Option Bool)) (es : List Assigned) : Type 0 where
  pub opened : AreOpened (length vs) [] es
  pub values : (q : ℕ) → slice_index_or vs q None ≡ valued (latest es) q

-- a decision: the first open input, false
pub record IsDecision (n : ℕ) (ls : List Lit) (l : Lit) : Type 0 where
  pub neg : l.neg ≡ true
  pub input : l.var < n
  pub opens : valued ls l.var ≡ None
  pub before : (i : ℕ) → i < l.var → (b : Bool) × (valued ls i ≡ Some b)

-- why the literal is true behind these
abbrev pub IsReason : List (List Lit) → ℕ → List Lit → Lit → Reason → Type 0
IsReason cs n ls l reasons.Decision = IsDecision n ls l
IsReason cs n ls l (reasons.Clause h) = (c : List Lit) × (slice_get cs h ≡ Some c) × IsUnit ls c l

-- each literal is a decision among so many inputs, or the open literal of a unit clause
abbrev pub IsTrail : List (List Lit) → ℕ → List Lit → List Assigned → Type 0
IsTrail cs n ls [] = ⊤
IsTrail cs n ls (e ∷ es) = IsReason cs n ls e.literal e.reason × IsTrail cs n (e.literal ∷ ls) es

-- why the literal may be true behind these: it is the negation of an open variable, or the open literal of a unit clause
abbrev pub IsLink : List (List Lit) → List Lit → Lit → Reason → Type 0
IsLink cs ls l reasons.Decision = (l.neg ≡ true) × (valued ls l.var ≡ None)
IsLink cs ls l (reasons.Clause h) = (c : List Lit) × (slice_get cs h ≡ Some c) × IsUnit ls c l

-- each literal may be true behind the ones before it
abbrev pub IsChain : List (List Lit) → List Lit → List Assigned → Type 0
IsChain cs ls [] = ⊤
IsChain cs ls (e ∷ es) = IsLink cs ls e.literal e.reason × IsChain cs (e.literal ∷ ls) es

-- the negations of the decisions
abbrev pub with_decision : Reason → Lit → List Lit → List Lit
with_decision reasons.Decision l rest = negated l ∷ rest
with_decision (reasons.Clause h) l rest = rest

abbrev pub undecided : List Assigned → List Lit
undecided [] = []
undecided (e ∷ es) = with_decision e.reason e.literal (undecided es)

-- the numbers of the unit clauses
abbrev pub with_reason : Reason → List ℕ → List ℕ
with_reason reasons.Decision rest = rest
with_reason (reasons.Clause h) rest = h ∷ rest

abbrev pub reasons_of : List Assigned → List ℕ
reasons_of [] = []
reasons_of (e ∷ es) = with_reason e.reason (reasons_of es)

-- how many of the first variables are open
abbrev pub open_count : Option Bool → ℕ
open_count None = 1
open_count (Some b) = 0

abbrev pub count_open : ℕ → List Lit → ℕ
count_open zero ls = 0
count_open (suc k) ls = open_count (valued ls k) + count_open k ls

-- a variable's value, false where it is open
abbrev pub bit : List Lit → ℕ → Bool
bit ls q = unwrap_or (valued ls q) false

-- the trail grew by literals of unit clauses: it is one wherever it was, what was assigned stays so, and each literal more is
-- an open variable less
pub record IsGrown (cs : List (List Lit)) (vars : ℕ) (old new : List Assigned) : Type 0 where
  pub trail : (ds : List (List Lit)) (n : ℕ) → IsTrail (cs ++ ds) n [] old → IsTrail (cs ++ ds) n [] new
  pub kept : (q : ℕ) (b : Bool) → valued (latest old) q ≡ Some b → valued (latest new) q ≡ Some b
  pub count : count_open vars (latest new) + length new ≡ count_open vars (latest old) + length old
  pub longer : length old ≤ length new

-- the literal at a place was taken back with all behind it, and its negation assigned by the clause with this number
pub record IsTurned (old new : List Assigned) (place clause var : ℕ) : Type 0 where
  pub front : List Assigned
  pub entry : Assigned
  pub back : List Assigned
  pub was : old ≡ front ++ entry ∷ back
  pub long : length front ≡ place
  pub is : new ≡ front ++ record { literal = negated entry.literal; reason = reasons.Clause clause } ∷ []
  pub own : (entry.literal).var ≡ var

-- a decision, of this variable, was taken back with all behind it, and its negation assigned by the clause with this number:
-- these literals are that negation, and negations of decisions before it
pub record IsFlipped (old new : List Assigned) (line : List Lit) (clause var : ℕ) : Type 0 where
  pub front : List Assigned
  pub literal : Lit
  pub back : List Assigned
  pub was : old ≡ front ++ record { literal = literal; reason = reasons.Decision } ∷ back
  pub is : new ≡ front ++ record { literal = negated literal; reason = reasons.Clause clause } ∷ []
  pub has : Has line (negated literal)
  pub others : (m : Lit) → Has line m → (m ≡ negated literal) ⊎ Has (undecided front) m
  pub own : literal.var ≡ var
