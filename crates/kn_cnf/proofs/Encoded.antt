-- The clauses of the nodes so far.
use Rattle.std.proofs.Common.{◌≡◌, ◌≢◌, ℕ, ◌+◌, ◌<◌, ◌≤◌, Bool, true, false, not, eqb, ◌&&◌, ◌||◌, List, [], ◌∷◌, ◌++◌, length, get_or, refl, ap, sym, subst, ◌∙◌, inl, inr, arith, length-append, append-nil}
use Rattle.std.specs.Prelude.{slice_get, Some, if◌then◌else◌}
use Rattle.std.specs.List.{AllByRecursion}
use Rattle.std.proofs.lemmas.Bool.{cases_eq, eq-eqb, ne_eqb}
use Rattle.std.proofs.lemmas.List.{get_or_append_left, get_or_push}
use Rattle.std.proofs.lemmas.Option.{slice_get_within, slice_get-get_or}
use Rattle.kn_aig.specs.declared.gates.Edge.{Edge}
use Rattle.kn_aig.specs.declared.gates.AigNode.{AigNode}
use Rattle.kn_aig.specs.declared.gates.AigNode.TheVariants as nodes
use Rattle.kn_aig.specs.Circuits.{edge_of, values_of, inputs_of, IsCircuit}
use Rattle.kn_aig.proofs.Ands.{node_value}
use Rattle.kn_aig.proofs.Chains.{inputs_before}
use Rattle.kn_cnf.specs.declared.clauses.Lit.{Lit}
use Rattle.kn_cnf.specs.Formulas.{AreBelow}
use Rattle.kn_cnf.specs.Truth.{lit_true, clause_true, all_true, Meets}
use Rattle.kn_cnf.specs.Units.{negated}
use Rattle.kn_cnf.specs.Encoding.{mark, AreMarked, lit_of, gate_clauses, name_of, vars_after, clauses_of}
use Rattle.kn_cnf.specs.SoFar.{name, edge_true, Encoded}
use Rattle.kn_cnf.proofs.Marks.{some_is}

-- the three clauses of a gate say that it has its value
gate_says : (g x y : Bool) → ((not g || (x || false)) && ((not g || (y || false)) && ((g || (not x || (not y || false))) && true))) ≡ true → g ≡ (x && y)
gate_says true true true e = refl
gate_says true true false e = absurd cc
gate_says true false y e = absurd cc
gate_says false true true e = absurd cc
gate_says false true false e = refl
gate_says false false y e = refl

gate_said : (x y : Bool) → ((not (x && y) || (x || false)) && ((not (x && y) || (y || false)) && (((x && y) || (not x || (not y || false))) && true))) ≡ true
gate_said true true = refl
gate_said true false = refl
gate_said false y = go y
  where
    go : (y : Bool) → ((not false || (false || false)) && ((not false || (y || false)) && ((false || (true || (not y || false))) && true))) ≡ true
    go true = refl
    go false = refl

negated_true : (v : ℕ → Bool) (l : Lit) → lit_true v (negated l) ≡ not (lit_true v l)
negated_true v l = go l.neg (v l.var)
  where
    go : (n b : Bool) → (if not n then not b else b) ≡ not (if n then not b else b)
    go true true = refl
    go true false = refl
    go false b = refl

-- the clauses of a gate, by the values of their literals
gate_clauses_are : (v : ℕ → Bool) (g x y : Lit) → all_true v (gate_clauses g x y)
    ≡ ((not (lit_true v g) || (lit_true v x || false)) && ((not (lit_true v g) || (lit_true v y || false)) && ((lit_true v g || (not (lit_true v x) || (not (lit_true v y) || false))) && true)))
gate_clauses_are v g x y =
    ap (λ (n : Bool). (n || (lit_true v x || false)) && ((n || (lit_true v y || false)) && ((lit_true v g || (lit_true v (negated x) || (lit_true v (negated y) || false))) && true))) (negated_true v g)
    ∙ (ap (λ (n : Bool). (not (lit_true v g) || (lit_true v x || false)) && ((not (lit_true v g) || (lit_true v y || false)) && ((lit_true v g || (n || (lit_true v (negated y) || false))) && true))) (negated_true v x)
    ∙ ap (λ (n : Bool). (not (lit_true v g) || (lit_true v x || false)) && ((not (lit_true v g) || (lit_true v y || false)) && ((lit_true v g || (not (lit_true v x) || (n || false))) && true))) (negated_true v y))

pub gate_meets : (v : ℕ → Bool) (g x y : Lit) → Meets v (gate_clauses g x y) → lit_true v g ≡ (lit_true v x && lit_true v y)
gate_meets v g x y m = gate_says (lit_true v g) (lit_true v x) (lit_true v y) (sym (gate_clauses_are v g x y) ∙ m)

pub gate_met : (v : ℕ → Bool) (g x y : Lit) → lit_true v g ≡ (lit_true v x && lit_true v y) → Meets v (gate_clauses g x y)
gate_met v g x y is =
    gate_clauses_are v g x y
    ∙ (ap (λ (n : Bool). (not n || (lit_true v x || false)) && ((not n || (lit_true v y || false)) && ((n || (not (lit_true v x) || (not (lit_true v y) || false))) && true))) is
    ∙ gate_said (lit_true v x) (lit_true v y))

-- clauses and more clauses are met where both are
pub meets_both : (v : ℕ → Bool) (cs ds : List (List Lit)) → Meets v (cs ++ ds) → Meets v cs × Meets v ds
meets_both v [] ds m = (refl, m)
meets_both v (c ∷ cs) ds m = go (λ e. meets_both v cs ds e) (clause_true v c) m
  where
    go : (all_true v (cs ++ ds) ≡ true → Meets v cs × Meets v ds) → (b : Bool) → (b && all_true v (cs ++ ds)) ≡ true → ((b && all_true v cs) ≡ true) × Meets v ds
    go later true e = later e
    go later false e = absurd cc

pub meets_join : (v : ℕ → Bool) (cs ds : List (List Lit)) → Meets v cs → Meets v ds → Meets v (cs ++ ds)
meets_join v [] ds m n = n
meets_join v (c ∷ cs) ds m n = go (λ e. meets_join v cs ds e n) (clause_true v c) m
  where
    go : (all_true v cs ≡ true → all_true v (cs ++ ds) ≡ true) → (b : Bool) → (b && all_true v cs) ≡ true → (b && all_true v (cs ++ ds)) ≡ true
    go later true e = later e
    go later false e = absurd cc

-- clauses below a number are below a greater one, and with more clauses below it
lits_more : (n m : ℕ) (c : List Lit) → n ≤ m → AllByRecursion (λ (l : Lit). l.var < n) c → AllByRecursion (λ (l : Lit). l.var < m) c
lits_more n m [] h b = tt
lits_more n m (l ∷ c) h b = (omega (arith, b.0, h), lits_more n m c h b.1)

pub below_more : (n m : ℕ) (cs : List (List Lit)) → n ≤ m → AreBelow n cs → AreBelow m cs
below_more n m [] h b = tt
below_more n m (c ∷ cs) h b = (lits_more n m c h b.0, below_more n m cs h b.1)

pub below_join : (n : ℕ) (cs ds : List (List Lit)) → AreBelow n cs → AreBelow n ds → AreBelow n (cs ++ ds)
below_join n [] ds b d = d
below_join n (c ∷ cs) ds b d = (b.0, below_join n cs ds b.1 d)

-- earlier nodes keep their variables
pub name_kept : (names : List ℕ) (m k : ℕ) → k < length names → name (names ++ m ∷ []) k ≡ name names k
name_kept names m k h = get_or_append_left names (m ∷ []) 0 k h

pub edge_kept : (v : ℕ → Bool) (names : List ℕ) (m : ℕ) (e : Edge) → e.node < length names → edge_true v (names ++ m ∷ []) e ≡ edge_true v names e
edge_kept v names m e h = ap (λ (n : ℕ). lit_true v (record { var = n; neg = e.inverted })) (name_kept names m e.node h)

-- an edge is its node's value, turned where it is inverted
pub edge_value : (v : ℕ → Bool) (names : List ℕ) (e : Edge) (vs : List Bool) → v (name names e.node) ≡ get_or vs e.node false → edge_true v names e ≡ edge_of vs e
edge_value v names e vs is = ap (λ (b : Bool). if e.inverted then not b else b) is

-- no node, and no clause
pub encoded_start : (ns : List AigNode) (marks : List Bool) → Encoded ns marks 0 [] (inputs_of ns) []
encoded_start ns marks = record {
  long = refl;
  low = omega arith;
  inputs = λ k i h at. absurd (omega (arith, h));
  gates = λ k x y h m at. absurd (omega (arith, h));
  below = tt;
  meets = λ v e k x y h m at. absurd (omega (arith, h));
  met = λ v e. refl;
  extends = λ bits count. ((λ i. get_or bits i false), (λ i h. refl), (λ k h z m. absurd (omega (arith, h))));
}

module _ (ns : List AigNode) (marks : List Bool) (circuit : IsCircuit ns) where
  node_at : (k : ℕ) (p q : AigNode) → slice_get ns k ≡ Some p → slice_get ns k ≡ Some q → p ≡ q
  node_at k p q e f = some_is p q (sym e ∙ f)

  -- an input has a lower number than there are inputs
  pub input_low : (k i : ℕ) → slice_get ns k ≡ Some (nodes.Input i) → i < inputs_of ns
  input_low k i at = let f = circuit.1 k (nodes.Input i) at in omega (arith, f, inputs_before ns k i at)

  pub gate_children : (k : ℕ) (x y : Edge) → slice_get ns k ≡ Some (nodes.And x y) → (0 < x.node) × (x.node < y.node) × (y.node < k)
  gate_children k x y at = circuit.1 k (nodes.And x y) at

  module _ (n : ℕ) (names : List ℕ) (vars : ℕ) (cs : List (List Lit)) (so_far : Encoded ns marks n names vars cs) (m : ℕ) where
    pub kept : (k : ℕ) → k < n → name (names ++ m ∷ []) k ≡ name names k
    kept k h = name_kept names m k (omega (arith, h, so_far.long))

    here : name (names ++ m ∷ []) n ≡ m
    here = get_or_push names m 0 n so_far.long

    -- what is known of earlier gates, with the new list of variables
    renamed : (v : ℕ → Bool) (k : ℕ) (x y : Edge) → k < n → slice_get ns k ≡ Some (nodes.And x y)
        → ((v (name names k) ≡ (edge_true v names x && edge_true v names y)) → v (name (names ++ m ∷ []) k) ≡ (edge_true v (names ++ m ∷ []) x && edge_true v (names ++ m ∷ []) y))
        × ((v (name (names ++ m ∷ []) k) ≡ (edge_true v (names ++ m ∷ []) x && edge_true v (names ++ m ∷ []) y)) → v (name names k) ≡ (edge_true v names x && edge_true v names y))
    renamed v k x y h at =
        let f = gate_children k x y at in
        let ex = edge_kept v names m x (omega (arith, so_far.long, f.1, f.2, h)) in
        let ey = edge_kept v names m y (omega (arith, so_far.long, f.2, h)) in
        let both : (edge_true v (names ++ m ∷ []) x && edge_true v (names ++ m ∷ []) y) ≡ (edge_true v names x && edge_true v names y) = ap (λ (b : Bool). b && edge_true v (names ++ m ∷ []) y) ex ∙ ap (λ (b : Bool). edge_true v names x && b) ey in
        ((λ e. ap v (kept k h) ∙ (e ∙ sym both)), (λ e. ap v (sym (kept k h)) ∙ (e ∙ both)))

    -- a marked node has a variable
    pub name_low : (k : ℕ) → k < n → 0 < k → mark marks k ≡ true → k < length ns → name names k < vars
    name_low k h z marked inside = go (get_or ns k nodes.Constant) (slice_get-get_or ns k nodes.Constant inside)
      where
        go : (p : AigNode) → slice_get ns k ≡ Some p → name names k < vars
        go nodes.Constant at = let f = circuit.1 k nodes.Constant at in absurd (omega (arith, f, z))
        go (nodes.Input i) at = omega (arith, so_far.inputs k i h at, input_low k i at, so_far.low)
        go (nodes.And x y) at = (so_far.gates k x y h marked at).1

    -- a node that needs no clause
    pub encoded_plain : (p : AigNode) → slice_get ns n ≡ Some p → ((x y : Edge) → mark marks n ≡ true → p ≡ nodes.And x y → ⊥) → ((i : ℕ) → p ≡ nodes.Input i → m ≡ i) → Encoded ns marks (n + 1) (names ++ m ∷ []) vars cs
    encoded_plain p at no_gate is_input = record {
      long = omega (arith, so_far.long, length-append names (m ∷ []));
      low = so_far.low;
      inputs = λ k i h ak. elim (cases_eq k n) [
        | inl e ↦ ap (name (names ++ m ∷ [])) e ∙ (here ∙ is_input i (node_at n p (nodes.Input i) at (ap (slice_get ns) (sym e) ∙ ak)))
        | inr d ↦ let before : k < n = omega (arith, h, d) in kept k before ∙ so_far.inputs k i before ak
      ];
      gates = λ k x y h mk ak. elim (cases_eq k n) [
        | inl e ↦ absurd (no_gate x y (ap (mark marks) (sym e) ∙ mk) (node_at n p (nodes.And x y) at (ap (slice_get ns) (sym e) ∙ ak)))
        | inr d ↦ let before : k < n = omega (arith, h, d) in let g = so_far.gates k x y before mk ak in (omega (arith, g.0, kept k before), omega (arith, g.1, kept k before))
      ];
      below = so_far.below;
      meets = λ v e k x y h mk ak. elim (cases_eq k n) [
        | inl same ↦ absurd (no_gate x y (ap (mark marks) (sym same) ∙ mk) (node_at n p (nodes.And x y) at (ap (slice_get ns) (sym same) ∙ ak)))
        | inr d ↦ let before : k < n = omega (arith, h, d) in (renamed v k x y before ak).0 (so_far.meets v e k x y before mk ak)
      ];
      met = λ v g. so_far.met v (λ k x y h mk ak. (renamed v k x y h ak).1 (g k x y (omega (arith, h)) mk ak));
      extends = λ bits count.
          let old = so_far.extends bits count in (
            old.0,
            old.1,
            λ k h z mk. elim (cases_eq k n) [
              | inl e ↦
                  ap (λ (j : ℕ). old.0 (name (names ++ m ∷ []) j)) e
                  ∙ (ap old.0 here
                  ∙ (new_value bits old.0 old.1 p at no_gate is_input (omega (arith, z, e)) (ap (mark marks) (sym e) ∙ mk)
                  ∙ ap (λ (j : ℕ). get_or (values_of bits ns) j false) (sym e)))
              | inr d ↦ let before : k < n = omega (arith, h, d) in ap old.0 (kept k before) ∙ old.2 k before z mk
            ],
          );
    }
      where
        new_value : (bits : List Bool) (v : ℕ → Bool) → ((i : ℕ) → i < inputs_of ns → v i ≡ get_or bits i false) → (p : AigNode) → slice_get ns n ≡ Some p → ((x y : Edge) → mark marks n ≡ true → p ≡ nodes.And x y → ⊥) → ((i : ℕ) → p ≡ nodes.Input i → m ≡ i) → 0 < n → mark marks n ≡ true → v m ≡ get_or (values_of bits ns) n false
        new_value bits v agree nodes.Constant at no_gate is_input z mk = let f = circuit.1 n nodes.Constant at in absurd (omega (arith, f, z))
        new_value bits v agree (nodes.Input i) at no_gate is_input z mk = ap v (is_input i refl) ∙ (agree i (input_low n i at) ∙ sym (node_value bits ns n (nodes.Input i) circuit.1 at))
        new_value bits v agree (nodes.And x y) at no_gate is_input z mk = absurd (no_gate x y mk refl)

-- values with one more variable
abbrev pub with_value : (ℕ → Bool) → ℕ → Bool → ℕ → Bool
with_value v n b q = if eqb q n then b else v q

with_here : (v : ℕ → Bool) (n : ℕ) (b : Bool) → with_value v n b n ≡ b
with_here v n b = ap (λ (t : Bool). if t then b else v n) (eq-eqb n n refl)

with_other : (v : ℕ → Bool) (n : ℕ) (b : Bool) (q : ℕ) → q ≢ n → with_value v n b q ≡ v q
with_other v n b q d = ap (λ (t : Bool). if t then b else v q) (ne_eqb q n d)

module _ (ns : List AigNode) (marks : List Bool) (circuit : IsCircuit ns) (n : ℕ) (names : List ℕ) (vars : ℕ) (cs : List (List Lit)) (so_far : Encoded ns marks n names vars cs) (x y : Edge)
    (at : slice_get ns n ≡ Some (nodes.And x y)) (marked : mark marks n ≡ true) (mx : mark marks x.node ≡ true) (my : mark marks y.node ≡ true) where
  more : List ℕ
  more = names ++ vars ∷ []

  clauses : List (List Lit)
  clauses = gate_clauses (record { var = vars; neg = false }) (lit_of names x) (lit_of names y)

  order : (0 < x.node) × (x.node < y.node) × (y.node < n)
  order = gate_children ns marks circuit n x y at

  size : n < length ns
  size = slice_get_within ns n _ at

  lit_low : (e : Edge) → 0 < e.node → e.node < n → mark marks e.node ≡ true → name names e.node < vars
  lit_low e z h mk = name_low ns marks circuit n names vars cs so_far 0 e.node h z mk (omega (arith, h, size))

  -- the gate here, with the new list of variables
  gate_here : (v : ℕ → Bool) → (v vars ≡ (edge_true v names x && edge_true v names y) → v (name (names ++ vars ∷ []) n) ≡ (edge_true v (names ++ vars ∷ []) x && edge_true v (names ++ vars ∷ []) y))
      × (v (name (names ++ vars ∷ []) n) ≡ (edge_true v (names ++ vars ∷ []) x && edge_true v (names ++ vars ∷ []) y) → v vars ≡ (edge_true v names x && edge_true v names y))
  gate_here v =
      let ex = edge_kept v names vars x (omega (arith, so_far.long, order.1, order.2)) in
      let ey = edge_kept v names vars y (omega (arith, so_far.long, order.2)) in
      let both : (edge_true v (names ++ vars ∷ []) x && edge_true v (names ++ vars ∷ []) y) ≡ (edge_true v names x && edge_true v names y) = ap (λ (b : Bool). b && edge_true v (names ++ vars ∷ []) y) ex ∙ ap (λ (b : Bool). edge_true v names x && b) ey in
      let here : name (names ++ vars ∷ []) n ≡ vars = get_or_push names vars 0 n so_far.long in
      ((λ e. ap v here ∙ (e ∙ sym both)), (λ e. sym (ap v here) ∙ (e ∙ both)))

  same_node : (k : ℕ) (a b : Edge) → k ≡ n → slice_get ns k ≡ Some (nodes.And a b) → (x ≡ a) × (y ≡ b)
  same_node k a b e ak =
      let same : nodes.And x y ≡ nodes.And a b = some_is _ _ (sym at ∙ (ap (slice_get ns) (sym e) ∙ ak)) in
      (cc, cc)

  -- a gate with its clauses
  pub encoded_gate : Encoded ns marks (n + 1) (names ++ vars ∷ []) (vars + 1) (cs ++ gate_clauses (record { var = vars; neg = false }) (lit_of names x) (lit_of names y))
  encoded_gate = record {
    long = omega (arith, so_far.long, length-append names (vars ∷ []));
    low = omega (arith, so_far.low);
    inputs = λ k i h ak. elim (cases_eq k n) [
      | inl e ↦ let wrong : nodes.And x y ≡ nodes.Input i = some_is _ _ (sym at ∙ (ap (slice_get ns) (sym e) ∙ ak)) in absurd cc
      | inr d ↦ let before : k < n = omega (arith, h, d) in kept ns marks circuit n names vars cs so_far vars k before ∙ so_far.inputs k i before ak
    ];
    gates = λ k a b h mk ak. elim (cases_eq k n) [
      | inl e ↦ let here : name (names ++ vars ∷ []) k ≡ vars = ap (name (names ++ vars ∷ [])) e ∙ get_or_push names vars 0 n so_far.long in (omega (arith, so_far.low, here), omega (arith, here))
      | inr d ↦ let before : k < n = omega (arith, h, d) in let g = so_far.gates k a b before mk ak in (omega (arith, g.0, kept ns marks circuit n names vars cs so_far vars k before), omega (arith, g.1, kept ns marks circuit n names vars cs so_far vars k before))
    ];
    below =
        let lx = lit_low x order.0 (omega (arith, order.1, order.2)) mx in
        let ly = lit_low y (omega (arith, order.0, order.1)) order.2 my in
        let g : vars < vars + 1 = omega arith in
        let px : name names x.node < vars + 1 = omega (arith, lx) in
        let py : name names y.node < vars + 1 = omega (arith, ly) in
        below_join (vars + 1) cs (gate_clauses (record { var = vars; neg = false }) (lit_of names x) (lit_of names y)) (below_more vars (vars + 1) cs (omega arith) so_far.below) ((g, (px, tt)), ((g, (py, tt)), ((g, (px, (py, tt))), tt)));
    meets = λ v e k a b h mk ak.
        let parts = meets_both v cs (gate_clauses (record { var = vars; neg = false }) (lit_of names x) (lit_of names y)) e in
        elim (cases_eq k n) [
          | inl same ↦
              let ab = same_node k a b same ak in
              let is = (gate_here v).0 (gate_meets v (record { var = vars; neg = false }) (lit_of names x) (lit_of names y) parts.1) in
              ap (λ (j : ℕ). v (name (names ++ vars ∷ []) j)) same ∙ (is ∙ (ap (λ (z : Edge). edge_true v (names ++ vars ∷ []) z && edge_true v (names ++ vars ∷ []) y) ab.0 ∙ ap (λ (z : Edge). edge_true v (names ++ vars ∷ []) a && edge_true v (names ++ vars ∷ []) z) ab.1))
          | inr d ↦ let before : k < n = omega (arith, h, d) in (renamed ns marks circuit n names vars cs so_far vars v k a b before ak).0 (so_far.meets v parts.0 k a b before mk ak)
        ];
    met = λ v g.
        meets_join v cs (gate_clauses (record { var = vars; neg = false }) (lit_of names x) (lit_of names y))
        (so_far.met v (λ k a b h mk ak. (renamed ns marks circuit n names vars cs so_far vars v k a b h ak).1 (g k a b (omega (arith, h)) mk ak)))
        (gate_met v (record { var = vars; neg = false }) (lit_of names x) (lit_of names y) ((gate_here v).1 (g n x y (omega arith) marked at)));
    extends = λ bits count.
        let old = so_far.extends bits count in
        let b = edge_of (values_of bits ns) x && edge_of (values_of bits ns) y in
        let v = with_value old.0 vars b in (
          v,
          λ i h. with_other old.0 vars b i (omega (arith, h, so_far.low)) ∙ old.1 i h,
          λ k h z mk. elim (cases_eq k n) [
            | inl e ↦
                ap (λ (j : ℕ). v (name (names ++ vars ∷ []) j)) e
                ∙ (ap v (get_or_push names vars 0 n so_far.long)
                ∙ (with_here old.0 vars b
                ∙ (sym (node_value bits ns n (nodes.And x y) circuit.1 at)
                ∙ ap (λ (j : ℕ). get_or (values_of bits ns) j false) (sym e))))
            | inr d ↦
                let before : k < n = omega (arith, h, d) in
                let low = name_low ns marks circuit n names vars cs so_far 0 k before z mk (omega (arith, before, size)) in
                ap v (kept ns marks circuit n names vars cs so_far vars k before) ∙ (with_other old.0 vars b (name names k) (omega (arith, low)) ∙ old.2 k before z mk)
          ],
        );
  }

-- one node more
pub encoded_step : (ns : List AigNode) (marks : List Bool) (root n : ℕ) (names more : List ℕ) (vars next : ℕ) (cs ds : List (List Lit)) (p : AigNode) (b : Bool) → IsCircuit ns → AreMarked ns root marks → Encoded ns marks n names vars cs
    → slice_get ns n ≡ Some p → b ≡ mark marks n → more ≡ names ++ name_of vars b p ∷ [] → ds ≡ cs ++ clauses_of names vars b p → next ≡ vars_after vars b p → Encoded ns marks (n + 1) more next ds
encoded_step ns marks root n names more vars next cs ds p b circuit are so_far at is em ed en =
    let step : Encoded ns marks (n + 1) (names ++ name_of vars b p ∷ []) (vars_after vars b p) (cs ++ clauses_of names vars b p) = go p b at is in
    subst (λ (l : List ℕ). Encoded ns marks (n + 1) l next ds) (sym em) (subst (λ (k : ℕ). Encoded ns marks (n + 1) (names ++ name_of vars b p ∷ []) k ds) (sym en) (subst (λ (l : List (List Lit)). Encoded ns marks (n + 1) (names ++ name_of vars b p ∷ []) (vars_after vars b p) l) (sym ed) step))
  where
    none : (m k : ℕ) → Encoded ns marks (n + 1) (names ++ m ∷ []) k cs → Encoded ns marks (n + 1) (names ++ m ∷ []) k (cs ++ [])
    none m k e = subst (λ (l : List (List Lit)). Encoded ns marks (n + 1) (names ++ m ∷ []) k l) (sym (append-nil cs)) e

    go : (p : AigNode) (b : Bool) → slice_get ns n ≡ Some p → b ≡ mark marks n → Encoded ns marks (n + 1) (names ++ name_of vars b p ∷ []) (vars_after vars b p) (cs ++ clauses_of names vars b p)
    go nodes.Constant b at is = none 0 vars (encoded_plain ns marks circuit n names vars cs so_far 0 nodes.Constant at (λ x y m e. cc) (λ i e. absurd cc))
    go (nodes.Input i) b at is = none i vars (encoded_plain ns marks circuit n names vars cs so_far i (nodes.Input i) at (λ x y m e. cc) (λ j e. cc))
    go (nodes.And x y) true at is =
        let both = are.closed n x y (sym is) at in
        encoded_gate ns marks circuit n names vars cs so_far x y at (sym is) both.0 both.1
    go (nodes.And x y) false at is = none 0 vars (encoded_plain ns marks circuit n names vars cs so_far 0 (nodes.And x y) at (λ a b m e. let wrong : false ≡ true = is ∙ m in cc) (λ i e. absurd cc))
