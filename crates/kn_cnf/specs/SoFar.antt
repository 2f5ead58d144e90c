-- The clauses of the nodes so far.
use Rattle.std.specs.Prelude.{◌≡◌, ◌<◌, ◌≤◌, ◌&&◌, ℕ, Bool, true, false, List, length, slice_get, slice_index_or, ◌++◌, Some, None}
use Rattle.kn_aig.specs.declared.gates.Edge.{Edge}
use Rattle.kn_aig.specs.declared.gates.AigNode.{AigNode}
use Rattle.kn_aig.specs.declared.gates.AigNode.TheVariants as nodes
use Rattle.kn_aig.specs.Circuits.{values_of, inputs_of, IsCircuit}
use Rattle.kn_cnf.specs.declared.clauses.Lit.{Lit}
use Rattle.kn_cnf.specs.Formulas.{AreBelow}
use Rattle.kn_cnf.specs.Units.{valued, IsPropagated, IsCompleted, assigned_from}
use Rattle.kn_cnf.specs.Truth.{lit_true, Meets}
use Rattle.kn_cnf.specs.Encoding.{mark, AreMarked, lit_of}

-- a node's variable
abbrev pub name : List ℕ → ℕ → ℕ
name names k = slice_index_or names k 0

-- what an edge is, by the variables
abbrev pub edge_true : (ℕ → Bool) → List ℕ → Edge → Bool
edge_true v names e = lit_true v (lit_of names e)

-- each marked gate so far is true exactly where its children are
abbrev pub GatesHold : List AigNode → List Bool → List ℕ → ℕ → (ℕ → Bool) → Type 0
GatesHold ns marks names n v = (k : ℕ) (x y : Edge) → k < n → mark marks k ≡ true → slice_get ns k ≡ Some (nodes.And x y) → v (name names k) ≡ (edge_true v names x && edge_true v names y)

-- what holds of the clauses of the nodes so far
pub record Encoded (ns : List AigNode) (marks : List Bool) (n : ℕ) (names : List ℕ) (vars : ℕ) (cs : List (List Lit)) : Type 0 where
  pub long : length names ≡ n
  pub low : inputs_of ns ≤ vars
  pub inputs : (k i : ℕ) → k < n → slice_get ns k ≡ Some (nodes.Input i) → name names k ≡ i
  pub gates : (k : ℕ) (x y : Edge) → k < n → mark marks k ≡ true → slice_get ns k ≡ Some (nodes.And x y) → (inputs_of ns ≤ name names k) × (name names k < vars)
  pub below : AreBelow vars cs
  pub meets : (v : ℕ → Bool) → Meets v cs → GatesHold ns marks names n v
  pub met : (v : ℕ → Bool) → GatesHold ns marks names n v → Meets v cs
  pub extends : (bits : List Bool) → length bits ≡ inputs_of ns → (v : ℕ → Bool) × ((i : ℕ) → i < inputs_of ns → v i ≡ slice_index_or bits i false) × ((k : ℕ) → k < n → 0 < k → mark marks k ≡ true → v (name names k) ≡ slice_index_or (values_of bits ns) k false)

-- how far unit propagation comes with the clauses so far, from each assignment of the inputs
pub record Spread (ns : List AigNode) (marks : List Bool) (n : ℕ) (names : List ℕ) (vars : ℕ) (cs : List (List Lit)) (bits : List Bool) : Type 0 where
  pub added : List Lit
  pub propagated : IsPropagated cs (assigned_from 0 bits) added
  pub assigned : IsCompleted vars (added ++ assigned_from 0 bits)
  pub opens : (q : ℕ) → vars ≤ q → valued (added ++ assigned_from 0 bits) q ≡ None
  pub bits_stay : (i : ℕ) → i < inputs_of ns → valued (added ++ assigned_from 0 bits) i ≡ Some (slice_index_or bits i false)
  pub values : (k : ℕ) → k < n → 0 < k → mark marks k ≡ true → valued (added ++ assigned_from 0 bits) (name names k) ≡ Some (slice_index_or (values_of bits ns) k false)

-- from each assignment of the inputs
abbrev pub Spreads : List AigNode → List Bool → ℕ → List ℕ → ℕ → List (List Lit) → Type 0
Spreads ns marks n names vars cs = (bits : List Bool) → length bits ≡ inputs_of ns → Spread ns marks n names vars cs bits

-- the clauses of all nodes that the root stands on
abbrev pub IsEncoded : List AigNode → ℕ → List ℕ → ℕ → List (List Lit) → Type 0
IsEncoded ns root names vars cs = (marks : List Bool) × IsCircuit ns × AreMarked ns root marks × Encoded ns marks (length ns) names vars cs × Spreads ns marks (length ns) names vars cs
