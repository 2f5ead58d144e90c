-- The clauses of a circuit.
use Rattle.std.specs.Prelude.{◌≡◌, ◌<◌, ◌≤◌, ◌+◌, ◌⊎◌, ℕ, zero, suc, Bool, true, false, List, [], ◌∷◌, length, slice_get, slice_index_or, Some, ⊤, if◌then◌else◌}
use Rattle.kn_aig.specs.declared.gates.Edge.{Edge}
use Rattle.kn_aig.specs.declared.gates.AigNode.{AigNode}
use Rattle.kn_aig.specs.declared.gates.AigNode.TheVariants as nodes
use Rattle.kn_aig.specs.Circuits.{value_of, inputs_of}
use Rattle.kn_cnf.specs.declared.clauses.Lit.{Lit}
use Rattle.kn_cnf.specs.Formulas.{Formula}
use Rattle.kn_cnf.specs.Truth.{Meets}
use Rattle.kn_cnf.specs.Units.{negated}

-- a child of a gate
abbrev pub IsChild : List AigNode → ℕ → ℕ → Type 0
IsChild ns k m = (x : Edge) × (y : Edge) × (slice_get ns k ≡ Some (nodes.And x y)) × ((x.node ≡ m) ⊎ (y.node ≡ m))

-- the nodes of a way down from the first one
abbrev pub IsWay : List AigNode → ℕ → List ℕ → ℕ → Type 0
IsWay ns k [] j = k ≡ j
IsWay ns k (m ∷ ms) j = IsChild ns k m × IsWay ns m ms j

-- the node is the upper one or stands below it
abbrev pub IsUnder : List AigNode → ℕ → ℕ → Type 0
IsUnder ns root j = (way : List ℕ) × IsWay ns root way j

-- whether a place is marked
abbrev pub mark : List Bool → ℕ → Bool
mark marks k = slice_index_or marks k false

-- the root, the children of marked gates and no others are marked
pub record AreMarked (ns : List AigNode) (root : ℕ) (marks : List Bool) : Type 0 where
  pub long : length marks ≡ length ns
  pub top : mark marks root ≡ true
  pub closed : (k : ℕ) (x y : Edge) → mark marks k ≡ true → slice_get ns k ≡ Some (nodes.And x y) → (mark marks x.node ≡ true) × (mark marks y.node ≡ true)
  pub only : (k : ℕ) → mark marks k ≡ true → IsUnder ns root k

-- the literal of an edge, by the variables of the nodes
abbrev pub lit_of : List ℕ → Edge → Lit
lit_of names e = record { var = slice_index_or names e.node 0; neg = e.inverted }

-- a variable is true exactly where both literals are
abbrev pub gate_clauses : Lit → Lit → Lit → List (List Lit)
gate_clauses g x y = (negated g ∷ x ∷ []) ∷ (negated g ∷ y ∷ []) ∷ (g ∷ negated x ∷ negated y ∷ []) ∷ []

-- the variable of the next node, where there are so many variables: a marked gate has a new one
abbrev pub name_of : ℕ → Bool → AigNode → ℕ
name_of vars marked nodes.Constant = 0
name_of vars marked (nodes.Input i) = i
name_of vars marked (nodes.And x y) = if marked then vars else 0

-- how many variables there are behind the next node
abbrev pub vars_after : ℕ → Bool → AigNode → ℕ
vars_after vars marked nodes.Constant = vars
vars_after vars marked (nodes.Input i) = vars
vars_after vars marked (nodes.And x y) = if marked then vars + 1 else vars

-- the clauses of the next node
abbrev pub clauses_of : List ℕ → ℕ → Bool → AigNode → List (List Lit)
clauses_of names vars marked nodes.Constant = []
clauses_of names vars marked (nodes.Input i) = []
clauses_of names vars marked (nodes.And x y) = if marked then gate_clauses (record { var = vars; neg = false }) (lit_of names x) (lit_of names y) else []

-- a gate whose children stand among so many nodes
abbrev pub IsWithin : ℕ → AigNode → Type 0
IsWithin n nodes.Constant = ⊤
IsWithin n (nodes.Input i) = ⊤
IsWithin n (nodes.And x y) = (x.node < n) × (y.node < n)

-- the values of the first variables, from one on
abbrev pub bits_from : (ℕ → Bool) → ℕ → ℕ → List Bool
bits_from v i zero = []
bits_from v i (suc n) = v i ∷ bits_from v (i + 1) n

-- the values of the inputs
abbrev pub bits_of : (ℕ → Bool) → List AigNode → List Bool
bits_of v ns = bits_from v 0 (inputs_of ns)

-- the edge that is a node's own value
abbrev pub plain : ℕ → Edge
plain k = record { node = k; inverted = false }

-- by these variables of the nodes, each gate under the root has its value under the values of the inputs
abbrev pub HaveValues : List AigNode → Edge → (ℕ → ℕ) → (ℕ → Bool) → Type 0
HaveValues ns root variable v = (k : ℕ) (x y : Edge) → IsUnder ns root.node k → slice_get ns k ≡ Some (nodes.And x y) → v (variable k) ≡ value_of (bits_of v ns) ns (plain k)

-- the clauses of a circuit: inputs are the first variables, each gate under the root has a variable behind them, and
-- values meet the clauses exactly where each such gate has its value and the root is true
pub record IsEncoding (ns : List AigNode) (root : Edge) (f : Formula) : Type 0 where
  pub variable : ℕ → ℕ
  pub inputs : (k i : ℕ) → slice_get ns k ≡ Some (nodes.Input i) → variable k ≡ i
  pub gates : (k : ℕ) (x y : Edge) → IsUnder ns root.node k → slice_get ns k ≡ Some (nodes.And x y) → (inputs_of ns ≤ variable k) × (variable k < f.vars)
  pub meets : (v : ℕ → Bool) → Meets v f.clauses → HaveValues ns root variable v × (value_of (bits_of v ns) ns root ≡ true)
  pub met : (v : ℕ → Bool) → HaveValues ns root variable v → value_of (bits_of v ns) ns root ≡ true → Meets v f.clauses

-- values of the inputs that make the root true extend to values that meet the clauses
abbrev pub IsExtendable : List AigNode → Edge → Formula → Type 0
IsExtendable ns root f = (bits : List Bool) → length bits ≡ inputs_of ns → value_of bits ns root ≡ true → (v : ℕ → Bool) × (bits_of v ns ≡ bits) × Meets v f.clauses
