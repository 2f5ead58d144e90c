-- Circuits: lists of nodes, children before parents, and the values of their edges.
use Rattle.std.specs.Prelude.{◌≡◌, ◌<◌, ◌+◌, ◌^◌, ◌&&◌, ℕ, Bool, false, not, if◌then◌else◌, List, [], ◌∷◌, ◌++◌, ◌==◌, ◌⊎◌, length, take, slice_index_or, slice_get, nat_lt, Some}
use Rattle.std.specs.Bool.{beq}
use Rattle.std.specs.declared.option.Option.{Option}
use Rattle.kn_aig.specs.declared.gates.Edge.{Edge}
use Rattle.kn_aig.specs.declared.gates.Pair.{Pair}
use Rattle.kn_aig.specs.declared.gates.AigNode.{AigNode}
use Rattle.kn_aig.specs.declared.gates.AigNode.TheVariants as nodes

-- a value, negated where the edge is inverted
abbrev pub flip : Bool → Bool → Bool
flip inverted b = if inverted then not b else b

-- whether one value is true and the other is not
abbrev pub differ : Bool → Bool → Bool
differ a b = if a then not b else b

-- an edge's value, by the values of the nodes
abbrev pub edge_of : List Bool → Edge → Bool
edge_of vs e = flip e.inverted (slice_index_or vs e.node false)

-- a node's value, by the inputs and the values of the nodes before it
abbrev pub node_of : List Bool → List Bool → AigNode → Bool
node_of bits vs nodes.Constant = false
node_of bits vs (nodes.Input i) = slice_index_or bits i false
node_of bits vs (nodes.And x y) = edge_of vs x && edge_of vs y

-- the values of nodes behind nodes that have these values
abbrev pub values_behind : List Bool → List Bool → List AigNode → List Bool
values_behind bits vs [] = []
values_behind bits vs (n ∷ ns) = node_of bits vs n ∷ values_behind bits (vs ++ node_of bits vs n ∷ []) ns

-- the values of all nodes
abbrev pub values_of : List Bool → List AigNode → List Bool
values_of bits ns = values_behind bits [] ns

-- an edge's value in a circuit, by the inputs
abbrev pub value_of : List Bool → List AigNode → Edge → Bool
value_of bits ns e = edge_of (values_of bits ns) e

-- how many inputs a node is
abbrev pub input_count : AigNode → ℕ
input_count (nodes.Input i) = 1
input_count _ = 0

-- how many inputs there are
abbrev pub inputs_of : List AigNode → ℕ
inputs_of [] = 0
inputs_of (n ∷ ns) = input_count n + inputs_of ns

-- a node that may stand at this place: inputs are numbered in order, and children stand before
abbrev pub Fits : List AigNode → ℕ → AigNode → Type 0
Fits ns k nodes.Constant = k ≡ 0
Fits ns k (nodes.Input i) = i ≡ inputs_of (take k ns)
Fits ns k (nodes.And x y) = (0 < x.node) × (x.node < y.node) × (y.node < k)

-- each node may stand where it is
abbrev pub AllFit : List AigNode → Type 0
AllFit ns = (k : ℕ) (n : AigNode) → slice_get ns k ≡ Some n → Fits ns k n

-- the constant is the first node, and each node may stand where it is
abbrev pub IsCircuit : List AigNode → Type 0
IsCircuit ns = (slice_get ns 0 ≡ Some nodes.Constant) × AllFit ns

-- the new circuit begins with the old one
abbrev pub Extends : List AigNode → List AigNode → Type 0
Extends old new = (more : List AigNode) × (new ≡ old ++ more)

-- the edge names a node of the circuit
abbrev pub Stands : List AigNode → Edge → Type 0
Stands ns e = e.node < length ns

-- a gate of these children, in either order, stands in the circuit
abbrev pub IsGate : List AigNode → Edge → Edge → ℕ → Type 0
IsGate ns x y k = (slice_get ns k ≡ Some (nodes.And x y)) ⊎ (slice_get ns k ≡ Some (nodes.And y x))

-- what a look-up of gates gives: the place of each gate, and no other place
pub record IsIndex (ns : List AigNode) (index : Pair → Option ℕ) : Type 0 where
  pub named : (p : Pair) (k : ℕ) → index p ≡ Some k → slice_get ns k ≡ Some (nodes.And p.first p.second)
  pub known : (x y : Edge) (k : ℕ) → slice_get ns k ≡ Some (nodes.And x y) → index (record { first = x; second = y }) ≡ Some k

-- whether two edges are the same
abbrev pub same_edge : Edge → Edge → Bool
same_edge x y = (x.node == y.node) && beq x.inverted y.inverted

-- whether two pairs have the same children
abbrev pub same_pair : Pair → Pair → Bool
same_pair p q = same_edge p.first q.first && same_edge p.second q.second

-- the children in order, the lower node first
abbrev pub pair_of : Edge → Edge → Pair
pair_of x y = if nat_lt x.node y.node then record { first = x; second = y } else record { first = y; second = x }

-- the gate of these edges takes no new node: a child is constant, both are one node, or the gate stands there
abbrev pub IsKnown : List AigNode → Edge → Edge → Type 0
IsKnown ns x y = (x.node ≡ 0) ⊎ ((y.node ≡ 0) ⊎ ((x.node ≡ y.node) ⊎ ((k : ℕ) × IsGate ns x y k)))

-- an edge that is true where both edges are, in a circuit that became longer
pub record IsAnd (old new : List AigNode) (x y e : Edge) : Type 0 where
  pub value : (bits : List Bool) → value_of bits new e ≡ (value_of bits old x && value_of bits old y)
  pub stands : Stands new e
  pub grows : Extends old new
  pub inputs : inputs_of new ≡ inputs_of old
  pub known : IsKnown old x y → new ≡ old

-- what holds of a circuit with so many inputs and this index of its gates
pub record IsKept (ns : List AigNode) (count : ℕ) (places : Pair → Option ℕ) : Type 0 where
  pub fits : AllFit ns
  pub counted : count ≡ inputs_of ns
  pub index : IsIndex ns places
  pub small : length ns < 2 ^ 64

-- the node reads only nodes and inputs of which there are so many
abbrev pub IsWithin : ℕ → ℕ → AigNode → Type 0
IsWithin count bits nodes.Constant = 0 < count
IsWithin count bits (nodes.Input i) = i < bits
IsWithin count bits (nodes.And x y) = (x.node < count) × (y.node < count)
