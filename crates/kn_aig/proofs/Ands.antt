-- The three ways in which a gate is had: simplified, found, and new.
use Rattle.std.proofs.Common.{◌≡◌, ◌≢◌, ℕ, ◌<◌, ◌≤◌, Bool, true, false, ◌&&◌, List, [], ◌∷◌, ◌++◌, length, get_or, take, refl, ap, sym, ◌∙◌, inl, inr, arith, length-append}
use Rattle.std.specs.Prelude.{slice_get, nat_lt, Some, None, if◌then◌else◌}
use Rattle.std.specs.declared.option.Option.{Option}
use Rattle.std.proofs.lemmas.Bool.{cases_lt, lt-ltb, le-ltb}
use Rattle.std.proofs.lemmas.Option.{slice_get_within, get_or_from_slice_get}
use Rattle.kn_aig.specs.declared.gates.Edge.{Edge}
use Rattle.kn_aig.specs.declared.gates.Pair.{Pair}
use Rattle.kn_aig.specs.declared.gates.AigNode.{AigNode}
use Rattle.kn_aig.specs.declared.gates.AigNode.TheVariants as nodes
use Rattle.kn_aig.specs.Circuits.{flip, edge_of, node_of, values_of, value_of, inputs_of, Fits, AllFit, Stands, IsIndex, IsGate, IsAnd, pair_of}
use Rattle.kn_aig.proofs.Values.{extends_same, value_at, value_before}
use Rattle.kn_aig.proofs.Longer.{inputs_of-append, value_of-pushed}

-- an edge has one value where its node has
edge_congr : (vs ws : List Bool) (e : Edge) → get_or vs e.node false ≡ get_or ws e.node false → edge_of vs e ≡ edge_of ws e
edge_congr vs ws e h = ap (flip e.inverted) h

-- a node's value by the nodes before it is that by all nodes
node_along : (bits : List Bool) (ns : List AigNode) (k : ℕ) (n : AigNode) → k ≤ length ns → Fits ns k n → node_of bits (values_of bits (take k ns)) n ≡ node_of bits (values_of bits ns) n
node_along bits ns k nodes.Constant h f = refl
node_along bits ns k (nodes.Input i) h f = refl
node_along bits ns k (nodes.And x y) h f =
    let first = edge_congr (values_of bits (take k ns)) (values_of bits ns) x (value_before bits ns k x.node (omega (arith, f.1, f.2)) h) in
    let second = edge_congr (values_of bits (take k ns)) (values_of bits ns) y (value_before bits ns k y.node f.2 h) in
    ap (λ (b : Bool). b && edge_of (values_of bits (take k ns)) y) first ∙ ap (λ (b : Bool). edge_of (values_of bits ns) x && b) second

-- what a node's value is, by the values of all nodes
pub node_value : (bits : List Bool) (ns : List AigNode) (k : ℕ) (n : AigNode) → AllFit ns → slice_get ns k ≡ Some n → get_or (values_of bits ns) k false ≡ node_of bits (values_of bits ns) n
node_value bits ns k n all at =
    let inside : k < length ns = slice_get_within ns k n at in
    let row = value_at bits ns k n inside in
    let is : get_or ns k n ≡ n = get_or_from_slice_get ns k n n at in
    row ∙ (ap (node_of bits (values_of bits (take k ns))) is ∙ node_along bits ns k n (omega arith) (all k n at))

-- the constant is false
pub constant_value : (bits : List Bool) (ns : List AigNode) → get_or (values_of bits (nodes.Constant ∷ ns)) 0 false ≡ false
constant_value bits ns = refl

and_swap : (a b : Bool) → (a && b) ≡ (b && a)
and_swap true true = refl
and_swap true false = refl
and_swap false true = refl
and_swap false false = refl

-- a gate that is one of the edges or a constant
pub and_simple : (items : List AigNode) (x y e : Edge) → Stands (nodes.Constant ∷ items) x → Stands (nodes.Constant ∷ items) y
    → ((vs : List Bool) → get_or vs 0 false ≡ false → edge_of vs e ≡ (edge_of vs x && edge_of vs y)) → ((n : ℕ) → x.node < n → y.node < n → e.node < n)
    → IsAnd (nodes.Constant ∷ items) (nodes.Constant ∷ items) x y e
and_simple items x y e sx sy value stands = record {
  value = λ bits. value (values_of bits (nodes.Constant ∷ items)) (constant_value bits items);
  stands = stands _ sx sy;
  grows = extends_same _;
  inputs = refl;
  known = λ _. refl;
}

-- the value of the children in order
pair_value : (bits : List Bool) (ns : List AigNode) (x y : Edge) → (value_of bits ns ((pair_of x y).first) && value_of bits ns ((pair_of x y).second)) ≡ (value_of bits ns x && value_of bits ns y)
pair_value bits ns x y =
    elim (cases_lt x.node y.node) [
      | inl less ↦ rw (lt-ltb x.node y.node less) refl
      | inr over ↦ rw (le-ltb x.node y.node over) (and_swap (value_of bits ns y) (value_of bits ns x))
    ]

-- a gate that stands in the circuit
pub and_found : (ns : List AigNode) (x y : Edge) (k : ℕ) → AllFit ns → slice_get ns k ≡ Some (nodes.And (pair_of x y).first (pair_of x y).second) → IsAnd ns ns x y (record { node = k; inverted = false })
and_found ns x y k all at = record {
  value = λ bits. node_value bits ns k _ all at ∙ pair_value bits ns x y;
  stands = slice_get_within ns k _ at;
  grows = extends_same ns;
  inputs = refl;
  known = λ _. refl;
}

-- where a gate stands, its children are in order
gate_pair : (ns : List AigNode) (x y : Edge) (k : ℕ) → AllFit ns → IsGate ns x y k → slice_get ns k ≡ Some (nodes.And (pair_of x y).first (pair_of x y).second)
gate_pair ns x y k all is =
    elim is [
      | inl at ↦
          let f = all k (nodes.And x y) at in
          let lower : nat_lt x.node y.node ≡ true = lt-ltb x.node y.node f.1 in
          at ∙ ap (λ (p : Pair). Some (nodes.And p.first p.second)) (sym (ap (λ (b : Bool). if b then record { first = x; second = y } else record { first = y; second = x }) lower))
      | inr at ↦
          let f = all k (nodes.And y x) at in
          let higher : nat_lt x.node y.node ≡ false = le-ltb x.node y.node (omega (arith, f.1)) in
          at ∙ ap (λ (p : Pair). Some (nodes.And p.first p.second)) (sym (ap (λ (b : Bool). if b then record { first = x; second = y } else record { first = y; second = x }) higher))
    ]

-- a gate that is new
pub and_new : (old new : List AigNode) (x y : Edge) (index : Pair → Option ℕ) → AllFit old → IsIndex old index → index (pair_of x y) ≡ None
    → 0 < x.node → 0 < y.node → x.node ≢ y.node → new ≡ old ++ nodes.And (pair_of x y).first (pair_of x y).second ∷ [] → IsAnd old new x y (record { node = length old; inverted = false })
and_new old new x y index all is absent px py apart grown = record {
  value = λ bits. value_of-pushed bits old new (nodes.And (pair_of x y).first (pair_of x y).second) (record { node = length old; inverted = false }) grown refl ∙ pair_value bits old x y;
  stands = omega (arith, length-append old (nodes.And (pair_of x y).first (pair_of x y).second ∷ []), ap length grown);
  grows = (nodes.And (pair_of x y).first (pair_of x y).second ∷ [], grown);
  inputs = omega (arith, ap inputs_of grown, inputs_of-append old (nodes.And (pair_of x y).first (pair_of x y).second ∷ []));
  known = λ h. absurd (elim h [
    | inl e ↦ omega (arith, e, px)
    | inr h ↦ elim h [
      | inl e ↦ omega (arith, e, py)
      | inr h ↦ elim h [
        | inl e ↦ apart e
        | inr gate ↦
            let named : index (pair_of x y) ≡ Some gate.0 = is.known (pair_of x y).first (pair_of x y).second gate.0 (gate_pair old x y gate.0 all gate.1) in
            let clash : None ≡ Some gate.0 = sym absent ∙ named in
            cc
      ]
    ]
  ]);
}

-- the children of a new gate stand before it, in order
pub fits_pair : (ns : List AigNode) (x y : Edge) → Stands ns x → Stands ns y → 0 < x.node → 0 < y.node → x.node ≢ y.node → Fits ns (length ns) (nodes.And (pair_of x y).first (pair_of x y).second)
fits_pair ns x y sx sy px py apart =
    elim (cases_lt x.node y.node) [
      | inl less ↦ rw (lt-ltb x.node y.node less) (px, less, sy)
      | inr over ↦ let more : y.node < x.node = omega arith in rw (le-ltb x.node y.node over) (py, more, sx)
    ]
