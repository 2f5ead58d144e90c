-- Parts of a condition that share no inputs.
use Rattle.std.specs.Prelude.{◌≡◌, ◌⊎◌, ℕ, Bool, true, false, ◌&&◌, nat_eq, if◌then◌else◌, List, [], ◌∷◌, Contains, slice_index_or}
use Rattle.std.specs.List.{AllByRecursion}
use Rattle.kn_term.specs.declared.node.Node.{Node}
use Rattle.kn_term.specs.declared.node.Literal.{Literal as Listed}
use Rattle.kn_term.specs.Terms.{Term, Valuation, Reads, listed}
use Rattle.kn_term.specs.declared.node.Ref.{Ref}
use Rattle.kn_term.specs.Nodes.{term_at, term_in}
use Rattle.kn_term.specs.Valuations.{AreEntries}
use Rattle.kn_cond.specs.Literals.{Literal}
use Rattle.kn_cond.specs.Conditions.{Condition, IsLeast, IsImpossible, IsFar, that}
use Rattle.kn_blast.specs.declared.inputs.InputBits.{InputBits}

-- each element of the first list is one of the second
abbrev pub AreAmong : {X : Type 0} → List X → List X → Type 0
AreAmong {X} xs ys = (x : X) → Contains xs x → Contains ys x

-- All elements are those of a part and those of the rest. The rest is of earlier elements.
pub record IsSplit {X : Type 0} (whole earlier part rest : List X) : Type 0 where
  pub part_in : AreAmong part whole
  pub rest_in : AreAmong rest earlier
  pub earlier_in : AreAmong earlier whole
  pub each : (x : X) → Contains whole x → Contains part x ⊎ Contains rest x

-- each input that a term reads is one of some inputs, or none is
abbrev pub ReadsOnly : (ℕ → ℕ → Bool) → Bool → Term → Type 0
ReadsOnly among b t = (n k width : ℕ) → Reads n k width t → among n k ≡ b

-- so does each literal of a condition
abbrev pub AllRead : (ℕ → ℕ → Bool) → Bool → Condition → Type 0
AllRead among b c = AllByRecursion (λ (l : Literal Term). ReadsOnly among b l.value) c

-- the words of the first valuation for some inputs, and those of the second for all others
abbrev pub IsLaidOver : (ℕ → ℕ → Bool) → Valuation → Valuation → Valuation → Type 0
IsLaidOver among b a v = (n k : ℕ) → listed v n k ≡ (if among n k then listed b n k else listed a n k)

-- The least inputs of a part, laid over the least inputs of what was there before, are the least of all, where the rest
-- reads no input of the part.
abbrev pub PartsJoin : Type 0
PartsJoin = (whole earlier part rest : Condition) (among : ℕ → ℕ → Bool) (a b v : Valuation)
    → IsSplit whole earlier part rest → AllRead among true part → AllRead among false rest
    → IsLeast (that earlier) a → IsLeast (that part) b → AreEntries v → IsLaidOver among b a v → IsLeast (that whole) v

-- Where a part is far, all is.
abbrev pub PartFar : Type 0
PartFar = (budget : ℕ) (whole part : Condition) → AreAmong part whole → IsFar budget (that part) → IsFar budget (that whole)

-- Where no inputs meet a part, none meet all.
abbrev pub PartNever : Type 0
PartNever = (whole part : Condition) → AreAmong part whole → IsImpossible (that part) → IsImpossible (that whole)

-- an input is one of a list
abbrev pub is_among : List InputBits → ℕ → ℕ → Bool
is_among [] n k = false
is_among (e ∷ es) n k = if nat_eq e.node n && nat_eq e.index k then true else is_among es n k

-- each literal reads inputs of the list alone, or none of them
abbrev pub LiteralsRead : List Node → List InputBits → Bool → List Listed → Type 0
LiteralsRead ns es b ls = AllByRecursion (λ (l : Listed). ReadsOnly (is_among es) b (term_at ns l.term.index)) ls

-- the mark of a literal's term, and a mark where there is none
abbrev pub marked : List Bool → Listed → Bool
marked marks l = slice_index_or marks l.term.index true

-- a term without a mark reads none of the inputs
abbrev pub AreMarked : List Term → List InputBits → List Bool → Type 0
AreMarked ts es marks = (r : Ref) → slice_index_or marks r.index true ≡ false → ReadsOnly (is_among es) false (term_in ts r)
