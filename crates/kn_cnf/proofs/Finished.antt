-- The clauses of all nodes, and of the root.
use Rattle.std.proofs.Common.{◌≡◌, ℕ, zero, suc, ◌+◌, ◌<◌, Bool, true, false, ◌&&◌, ◌||◌, List, [], ◌∷◌, ◌++◌, length, get_or, refl, ap, sym, ◌∙◌, inl, inr, arith}
use Rattle.std.specs.Prelude.{slice_get, Some, None, if◌then◌else◌}
use Rattle.std.specs.declared.option.Option.{Option}
use Rattle.std.proofs.lemmas.Option.{slice_get_within, slice_get-get_or}
use Rattle.kn_aig.specs.declared.gates.Edge.{Edge}
use Rattle.kn_aig.specs.declared.gates.AigNode.{AigNode}
use Rattle.kn_aig.specs.declared.gates.AigNode.TheVariants as nodes
use Rattle.kn_aig.specs.Circuits.{flip, edge_of, values_of, value_of, inputs_of, IsCircuit}
use Rattle.kn_aig.proofs.Ands.{node_value}
use Rattle.kn_cnf.specs.declared.clauses.Lit.{Lit}
use Rattle.kn_cnf.specs.Formulas.{Formula, AreBelow}
use Rattle.kn_cnf.specs.Truth.{Meets}
use Rattle.kn_cnf.specs.Encoding.{mark, AreMarked, IsUnder, IsWay, lit_of, bits_from, bits_of, plain, HaveValues, IsEncoding, IsExtendable}
use Rattle.kn_cnf.proofs.Marks.{some_is}
use Rattle.kn_cnf.specs.SoFar.{name, edge_true, GatesHold, Encoded}
use Rattle.kn_cnf.proofs.Encoded.{meets_both, meets_join, below_join, edge_value, input_low, gate_children, name_low}

-- one of the values of the first variables
bits_get : (v : ℕ → Bool) (i n k : ℕ) → k < n → get_or (bits_from v i n) k false ≡ v (i + k)
bits_get v i zero k h = absurd (omega arith)
bits_get v i (suc n) zero h = let e : i ≡ i + 0 = omega arith in ap v e
bits_get v i (suc n) (suc k) h = let e : (i + 1) + k ≡ i + suc k = omega arith in bits_get v (i + 1) n k (omega (arith, h)) ∙ ap v e

-- values that agree with bits are the bits
bits_agree : (v : ℕ → Bool) (i n : ℕ) (bits : List Bool) → length bits ≡ n → ((j : ℕ) → j < n → v (i + j) ≡ get_or bits j false) → bits_from v i n ≡ bits
bits_agree v i zero [] count agree = refl
bits_agree v i zero (b ∷ bits) count agree = absurd (omega (arith, count))
bits_agree v i (suc n) [] count agree = absurd (omega (arith, count))
bits_agree v i (suc n) (b ∷ bits) count agree =
    let here : v i ≡ b = (let e : i ≡ i + 0 = omega arith in ap v e ∙ agree 0 (omega arith)) in
    let rest = bits_agree v (i + 1) n bits (omega (arith, count)) (λ j h. let e : (i + 1) + j ≡ i + suc j = omega arith in ap v e ∙ agree (suc j) (omega (arith, h))) in
    ap (λ (c : Bool). c ∷ bits_from v (i + 1) n) here ∙ ap (λ (l : List Bool). b ∷ l) rest

-- each node under the root is marked
under_marked : (ns : List AigNode) (root : ℕ) (marks : List Bool) → AreMarked ns root marks → (k : ℕ) → IsUnder ns root k → mark marks k ≡ true
under_marked ns root marks are k under = go root under.0 are.top under.1
  where
    go : (r : ℕ) (way : List ℕ) → mark marks r ≡ true → IsWay ns r way k → mark marks k ≡ true
    go r [] m e = ap (mark marks) (sym e) ∙ m
    go r (j ∷ way) m w =
        let child = w.0 in
        let both = are.closed r child.0 child.1 m child.2 in
        go j way (elim child.3 [ inl e ↦ ap (mark marks) (sym e) ∙ both.0 | inr e ↦ ap (mark marks) (sym e) ∙ both.1 ]) w.1

module _ (ns : List AigNode) (root : Edge) (marks : List Bool) (names : List ℕ) (vars : ℕ) (cs : List (List Lit)) (circuit : IsCircuit ns) (are : AreMarked ns root.node marks) (all : Encoded ns marks (length ns) names vars cs) where
  -- an input's variable has its bit
  input_has : (v : ℕ → Bool) (k i : ℕ) → k < length ns → slice_get ns k ≡ Some (nodes.Input i) → v (name names k) ≡ get_or (values_of (bits_of v ns) ns) k false
  input_has v k i h at =
      let e : i ≡ 0 + i = omega arith in
      ap v (all.inputs k i h at ∙ e) ∙ (sym (bits_get v 0 (inputs_of ns) i (input_low ns marks circuit k i at)) ∙ sym (node_value (bits_of v ns) ns k (nodes.Input i) circuit.1 at))

  -- a gate's value, by what its children are
  gate_has : (v : ℕ → Bool) (k : ℕ) (x y : Edge) → slice_get ns k ≡ Some (nodes.And x y)
      → v (name names x.node) ≡ get_or (values_of (bits_of v ns) ns) x.node false → v (name names y.node) ≡ get_or (values_of (bits_of v ns) ns) y.node false
      → (edge_true v names x && edge_true v names y) ≡ get_or (values_of (bits_of v ns) ns) k false
  gate_has v k x y at ex ey =
      let vs = values_of (bits_of v ns) ns in
      ap (λ (b : Bool). b && edge_true v names y) (edge_value v names x vs ex) ∙ (ap (λ (b : Bool). edge_of vs x && b) (edge_value v names y vs ey) ∙ sym (node_value (bits_of v ns) ns k (nodes.And x y) circuit.1 at))

  -- where the gates hold, each marked node has its value
  all_values : (v : ℕ → Bool) → GatesHold ns marks names (length ns) v → (b k : ℕ) → k < b → k < length ns → 0 < k → mark marks k ≡ true → v (name names k) ≡ get_or (values_of (bits_of v ns) ns) k false
  all_values v hold zero k low h z mk = absurd (omega arith)
  all_values v hold (suc b) k low h z mk = go (λ j l i y m. all_values v hold b j l i y m) (get_or ns k nodes.Constant) (slice_get-get_or ns k nodes.Constant h)
    where
      go : ((j : ℕ) → j < b → j < length ns → 0 < j → mark marks j ≡ true → v (name names j) ≡ get_or (values_of (bits_of v ns) ns) j false) → (p : AigNode) → slice_get ns k ≡ Some p → v (name names k) ≡ get_or (values_of (bits_of v ns) ns) k false
      go before nodes.Constant at = let f = circuit.1 k nodes.Constant at in absurd (omega (arith, f, z))
      go before (nodes.Input i) at = input_has v k i h at
      go before (nodes.And x y) at =
          let f = gate_children ns marks circuit k x y at in
          let both = are.closed k x y mk at in
          let ex = before x.node (omega (arith, f.1, f.2, low)) (omega (arith, f.1, f.2, h)) f.0 both.0 in
          let ey = before y.node (omega (arith, f.2, low)) (omega (arith, f.2, h)) (omega (arith, f.0, f.1)) both.1 in
          hold k x y h mk at ∙ gate_has v k x y at ex ey

  -- where gates have their values, each marked node has
  node_has : (v : ℕ → Bool) → HaveValues ns root (name names) v → (k : ℕ) → k < length ns → 0 < k → mark marks k ≡ true → v (name names k) ≡ get_or (values_of (bits_of v ns) ns) k false
  node_has v have k h z mk = go (get_or ns k nodes.Constant) (slice_get-get_or ns k nodes.Constant h)
    where
      go : (p : AigNode) → slice_get ns k ≡ Some p → v (name names k) ≡ get_or (values_of (bits_of v ns) ns) k false
      go nodes.Constant at = let f = circuit.1 k nodes.Constant at in absurd (omega (arith, f, z))
      go (nodes.Input i) at = input_has v k i h at
      go (nodes.And x y) at = have k x y (are.only k mk) at

  -- and the gates hold
  have_hold : (v : ℕ → Bool) → HaveValues ns root (name names) v → GatesHold ns marks names (length ns) v
  have_hold v have k x y h mk at =
      let f = gate_children ns marks circuit k x y at in
      let both = are.closed k x y mk at in
      let ex = node_has v have x.node (omega (arith, f.1, f.2, h)) f.0 both.0 in
      let ey = node_has v have y.node (omega (arith, f.2, h)) (omega (arith, f.0, f.1)) both.1 in
      have k x y (are.only k mk) at ∙ sym (gate_has v k x y at ex ey)

  module _ (inside : root.node < length ns) (some : 0 < root.node) where
    abbrev whole : Formula
    whole = record { vars = vars; clauses = cs ++ (lit_of names root ∷ []) ∷ [] }

    root_clause : (v : ℕ → Bool) → Meets v ((lit_of names root ∷ []) ∷ []) → edge_true v names root ≡ true
    root_clause v m = go (edge_true v names root) m
      where
        go : (b : Bool) → ((b || false) && true) ≡ true → b ≡ true
        go true e = refl
        go false e = absurd cc

    root_met : (v : ℕ → Bool) → edge_true v names root ≡ true → Meets v ((lit_of names root ∷ []) ∷ [])
    root_met v e = ap (λ (b : Bool). (b || false) && true) e

    pub encoding : IsEncoding ns root whole
    encoding = record {
      variable = name names;
      inputs = λ k i at. all.inputs k i (slice_get_within ns k _ at) at;
      gates = λ k x y under at. all.gates k x y (slice_get_within ns k _ at) (under_marked ns root.node marks are k under) at;
      meets = λ v m.
          let parts = meets_both v cs ((lit_of names root ∷ []) ∷ []) m in
          let hold = all.meets v parts.0 in
          let top = all_values v hold (length ns) root.node inside inside some are.top in (
            λ k x y under at.
                let h = slice_get_within ns k _ at in
                let f = gate_children ns marks circuit k x y at in
                all_values v hold (length ns) k h h (omega (arith, f.2)) (under_marked ns root.node marks are k under),
            sym (edge_value v names root (values_of (bits_of v ns) ns) top) ∙ root_clause v parts.1,
          );
      met = λ v have is.
          let top = node_has v have root.node inside some are.top in
          meets_join v cs ((lit_of names root ∷ []) ∷ []) (all.met v (have_hold v have)) (root_met v (edge_value v names root (values_of (bits_of v ns) ns) top ∙ is));
    }

    pub extendable : IsExtendable ns root whole
    unfolding encoding
    extendable bits count is =
        let made = all.extends bits count in
        let v = made.0 in
        let same : bits_of v ns ≡ bits = bits_agree v 0 (inputs_of ns) bits count (λ j h. let e : 0 + j ≡ j = omega arith in ap v e ∙ made.1 j h) in
        let have : HaveValues ns root (name names) v = λ k x y under at.
        let f = gate_children ns marks circuit k x y at in
        made.2 k (slice_get_within ns k _ at) (omega (arith, f.2)) (under_marked ns root.node marks are k under) ∙ ap (λ (b : List Bool). value_of b ns (plain k)) (sym same) in
        (v, same, encoding.met v have (ap (λ (b : List Bool). value_of b ns root) same ∙ is))

    pub below : AreBelow vars (cs ++ (lit_of names root ∷ []) ∷ [])
    below = below_join vars cs ((lit_of names root ∷ []) ∷ []) all.below ((name_low ns marks circuit (length ns) names vars cs all 0 root.node inside some are.top inside, tt), tt)

-- the place of an input
abbrev input_place : Option AigNode → ℕ
input_place None = 0
input_place (Some nodes.Constant) = 0
input_place (Some (nodes.Input i)) = i
input_place (Some (nodes.And x y)) = 0

-- a constant root has no clause where it is true, and the empty clause where it is false
abbrev pub constant_clauses : Bool → List (List Lit)
constant_clauses inverted = if inverted then [] else [] ∷ []

module _ (ns : List AigNode) (root : Edge) (circuit : IsCircuit ns) (is_constant : root.node ≡ 0) where
  no_gate : (k : ℕ) (x y : Edge) → IsUnder ns root.node k → slice_get ns k ≡ Some (nodes.And x y) → ⊥
  no_gate k x y under at = go under.0 under.1
    where
      go : (way : List ℕ) → IsWay ns root.node way k → ⊥
      go [] e = let wrong : nodes.Constant ≡ nodes.And x y = some_is _ _ (sym circuit.0 ∙ (ap (slice_get ns) (sym is_constant ∙ e) ∙ at)) in cc
      go (j ∷ way) w = let child = w.0 in let wrong : nodes.Constant ≡ nodes.And child.0 child.1 = some_is _ _ (sym circuit.0 ∙ (ap (slice_get ns) (sym is_constant) ∙ child.2)) in cc

  root_value : (bits : List Bool) → value_of bits ns root ≡ root.inverted
  root_value bits =
      let zero_value : get_or (values_of bits ns) root.node false ≡ false = ap (λ (k : ℕ). get_or (values_of bits ns) k false) is_constant ∙ node_value bits ns 0 nodes.Constant circuit.1 circuit.0 in
      ap (flip root.inverted) zero_value ∙ turned root.inverted
    where
      turned : (i : Bool) → flip i false ≡ i
      turned true = refl
      turned false = refl

  constant_meets : (v : ℕ → Bool) (i : Bool) → Meets v (constant_clauses i) → i ≡ true
  constant_meets v true m = refl
  constant_meets v false m = absurd cc

  constant_met : (v : ℕ → Bool) (i : Bool) → i ≡ true → Meets v (constant_clauses i)
  constant_met v true e = refl
  constant_met v false e = absurd cc

  pub constant_encoding : IsEncoding ns root (record { vars = inputs_of ns; clauses = constant_clauses root.inverted })
  constant_encoding = record {
    variable = λ k. input_place (slice_get ns k);
    inputs = λ k i at. ap input_place at;
    gates = λ k x y under at. absurd (no_gate k x y under at);
    meets = λ v m. (λ k x y under at. absurd (no_gate k x y under at), root_value (bits_of v ns) ∙ constant_meets v root.inverted m);
    met = λ v have is. constant_met v root.inverted (sym (root_value (bits_of v ns)) ∙ is);
  }

  pub constant_extendable : IsExtendable ns root (record { vars = inputs_of ns; clauses = constant_clauses root.inverted })
  constant_extendable bits count is =
      let v : ℕ → Bool = λ i. get_or bits i false in
      let same : bits_of v ns ≡ bits = bits_agree v 0 (inputs_of ns) bits count (λ j h. let e : 0 + j ≡ j = omega arith in ap v e) in
      (v, same, constant_met v root.inverted (sym (root_value bits) ∙ is))

abbrev pub formula : ℕ → List (List Lit) → Formula
formula n cs = record { vars = n; clauses = cs }

-- formulas with as many variables and the same clauses
pub same_formula : (n m : ℕ) (cs ds : List (List Lit)) → n ≡ m → cs ≡ ds → formula n cs ≡ formula m ds
same_formula n m cs ds e f = ap (λ (k : ℕ). formula k cs) e ∙ ap (formula m) f
