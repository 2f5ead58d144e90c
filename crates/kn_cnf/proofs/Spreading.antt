-- Unit propagation along the clauses of gates.
use Rattle.std.proofs.Common.{◌≡◌, ◌≢◌, ℕ, zero, suc, ◌+◌, ◌<◌, ◌≤◌, Bool, true, false, not, ◌&&◌, List, [], ◌∷◌, ◌++◌, length, get_or, refl, ap, sym, subst, ◌∙◌, inl, inr, arith, append-nil}
use Rattle.std.specs.Prelude.{slice_get, Some, None, ◌⊎◌, if◌then◌else◌}
use Rattle.std.specs.declared.option.Option.{Option}
use Rattle.std.specs.Option.{option_map}
use Rattle.std.proofs.lemmas.Bool.{cases_eq, eq-eqb, ne_eqb}
use Rattle.std.proofs.lemmas.List.{get_or_push}
use Rattle.std.proofs.lemmas.Option.{slice_get_within}
use Rattle.kn_aig.specs.declared.gates.Edge.{Edge}
use Rattle.kn_aig.specs.declared.gates.AigNode.{AigNode}
use Rattle.kn_aig.specs.declared.gates.AigNode.TheVariants as nodes
use Rattle.kn_aig.specs.Circuits.{edge_of, values_of, inputs_of, IsCircuit}
use Rattle.kn_aig.proofs.Ands.{node_value}
use Rattle.kn_cnf.specs.declared.clauses.Lit.{Lit}
use Rattle.kn_cnf.specs.Units.{negated, valued, lit_value, IsUnit, HasClause, IsPropagated, IsCompleted, IsRefuted, assigned_from, IsDecided}
use Rattle.kn_cnf.specs.Encoding.{mark, AreMarked, lit_of, gate_clauses, name_of, vars_after, clauses_of}
use Rattle.kn_cnf.specs.SoFar.{name, Encoded, Spread, Spreads}
use Rattle.kn_cnf.proofs.Encoded.{input_low, gate_children, name_low, kept}

-- a variable of the assignment of the inputs
pub assigned_value : (i : ℕ) (bits : List Bool) (j : ℕ) → j < length bits → valued (assigned_from i bits) (i + j) ≡ Some (get_or bits j false)
assigned_value i [] j h = absurd (omega arith)
assigned_value i (b ∷ bits) zero h =
    let e : i ≡ i + 0 = omega arith in
    ap (λ (t : Bool). if t then Some (not (not b)) else valued (assigned_from (i + 1) bits) (i + 0)) (eq-eqb i (i + 0) e) ∙ ap (λ (c : Bool). Some c) (twice b)
  where
    twice : (b : Bool) → not (not b) ≡ b
    twice true = refl
    twice false = refl
assigned_value i (b ∷ bits) (suc j) h =
    let ne : i ≢ i + suc j = omega arith in
    let e : (i + 1) + j ≡ i + suc j = omega arith in
    ap (λ (t : Bool). if t then Some (not (not b)) else valued (assigned_from (i + 1) bits) (i + suc j)) (ne_eqb i (i + suc j) ne) ∙ (ap (valued (assigned_from (i + 1) bits)) (sym e) ∙ assigned_value (i + 1) bits j (omega (arith, h)))

pub assigned_none : (i : ℕ) (bits : List Bool) (q : ℕ) → i + length bits ≤ q → valued (assigned_from i bits) q ≡ None
assigned_none i [] q h = refl
assigned_none i (b ∷ bits) q h =
    let ne : i ≢ q = omega (arith, h) in
    ap (λ (t : Bool). if t then Some (not (not b)) else valued (assigned_from (i + 1) bits) q) (ne_eqb i q ne) ∙ assigned_none (i + 1) bits q (omega (arith, h))

-- clauses stay where more follow
clause_kept : (cs ds : List (List Lit)) (c : List Lit) → HasClause cs c → HasClause (cs ++ ds) c
clause_kept cs ds c has = (has.0, go cs has.0 has.1)
  where
    go : (cs : List (List Lit)) (h : ℕ) → slice_get cs h ≡ Some c → slice_get (cs ++ ds) h ≡ Some c
    go [] h e = absurd cc
    go (b ∷ bs) zero e = e
    go (b ∷ bs) (suc h) e = go bs h e

pub clause_later : (cs ds : List (List Lit)) (c : List Lit) → HasClause ds c → HasClause (cs ++ ds) c
clause_later [] ds c has = has
clause_later (b ∷ bs) ds c has = let rest = clause_later bs ds c has in (suc rest.0, rest.1)

pub propagated_kept : (cs ds : List (List Lit)) (start added : List Lit) → IsPropagated cs start added → IsPropagated (cs ++ ds) start added
propagated_kept cs ds start [] p = tt
propagated_kept cs ds start (m ∷ ms) p = (p.0, clause_kept cs ds p.0 p.1, p.2, propagated_kept cs ds start ms p.3)

-- the values of literals
lit_open : (ls : List Lit) (l : Lit) → valued ls l.var ≡ None → lit_value ls l ≡ None
lit_open ls l e = ap (option_map (λ b. if l.neg then not b else b)) e

lit_assigned : (ls : List Lit) (l : Lit) (b : Bool) → valued ls l.var ≡ Some b → lit_value ls l ≡ Some (if l.neg then not b else b)
lit_assigned ls l b e = ap (option_map (λ b. if l.neg then not b else b)) e

lit_turned : (ls : List Lit) (l : Lit) (b : Bool) → lit_value ls l ≡ Some b → lit_value ls (negated l) ≡ Some (not b)
lit_turned ls l b e = go l.neg (valued ls l.var) e
  where
    go : (n : Bool) (o : Option Bool) → option_map (λ b. if n then not b else b) o ≡ Some b → option_map (λ b. if not n then not b else b) o ≡ Some (not b)
    go n None e = absurd cc
    go true (Some true) e = let same : false ≡ b = cc in ap (λ (c : Bool). Some (not c)) same
    go true (Some false) e = let same : true ≡ b = cc in ap (λ (c : Bool). Some (not c)) same
    go false (Some true) e = let same : true ≡ b = cc in ap (λ (c : Bool). Some (not c)) same
    go false (Some false) e = let same : false ≡ b = cc in ap (λ (c : Bool). Some (not c)) same

-- an edge's literal has the edge's value
pub edge_assigned : (ls : List Lit) (names : List ℕ) (e : Edge) (vs : List Bool) → valued ls (name names e.node) ≡ Some (get_or vs e.node false) → lit_value ls (lit_of names e) ≡ Some (edge_of vs e)
edge_assigned ls names e vs is = lit_assigned ls (lit_of names e) (get_or vs e.node false) is

-- of the clauses of a gate one is unit once both children are assigned
unit_pair : (ls : List Lit) (g x : Lit) → lit_value ls g ≡ None → lit_value ls x ≡ Some false → IsUnit ls (g ∷ x ∷ []) g
unit_pair ls g x o f = record {
  has = inl refl;
  opens = o;
  others = λ m h n. elim h [ inl e ↦ absurd (n (sym e)) | inr h ↦ elim h [ inl e ↦ subst (λ (k : Lit). lit_value ls k ≡ Some false) e f | inr z ↦ absurd z ] ];
}

unit_triple : (ls : List Lit) (g x y : Lit) → lit_value ls g ≡ None → lit_value ls x ≡ Some false → lit_value ls y ≡ Some false → IsUnit ls (g ∷ x ∷ y ∷ []) g
unit_triple ls g x y o f h = record {
  has = inl refl;
  opens = o;
  others = λ m has n. elim has [
    | inl e ↦ absurd (n (sym e))
    | inr r ↦ elim r [
      | inl e ↦ subst (λ (k : Lit). lit_value ls k ≡ Some false) e f
      | inr r ↦ elim r [ inl e ↦ subst (λ (k : Lit). lit_value ls k ≡ Some false) e h | inr z ↦ absurd z ]
    ]
  ];
}

-- the literal that gives the gate its value, and its clause
pub gate_unit : (ls : List Lit) (g : ℕ) (x y : Lit) (a b : Bool) → valued ls g ≡ None → lit_value ls x ≡ Some a → lit_value ls y ≡ Some b
    → (c : List Lit) × HasClause (gate_clauses (record { var = g; neg = false }) x y) c × IsUnit ls c (record { var = g; neg = not (a && b) })
gate_unit ls g x y true true o ex ey =
    let gate : Lit = record { var = g; neg = false } in
    (gate ∷ negated x ∷ negated y ∷ [], (2, refl), unit_triple ls gate (negated x) (negated y) (lit_open ls gate o) (lit_turned ls x true ex) (lit_turned ls y true ey))
gate_unit ls g x y true false o ex ey =
    let gate : Lit = record { var = g; neg = true } in
    (gate ∷ y ∷ [], (1, refl), unit_pair ls gate y (lit_open ls gate o) ey)
gate_unit ls g x y false b o ex ey =
    let gate : Lit = record { var = g; neg = true } in
    (gate ∷ x ∷ [], (0, refl), unit_pair ls gate x (lit_open ls gate o) ex)

-- an assignment with one literal more
pub valued_here : (ls : List Lit) (g : ℕ) (b : Bool) → valued (record { var = g; neg = not b } ∷ ls) g ≡ Some b
valued_here ls g b = ap (λ (t : Bool). if t then Some (not (not b)) else valued ls g) (eq-eqb g g refl) ∙ ap (λ (c : Bool). Some c) (twice b)
  where
    twice : (b : Bool) → not (not b) ≡ b
    twice true = refl
    twice false = refl

pub valued_there : (ls : List Lit) (g : ℕ) (b : Bool) (q : ℕ) → q ≢ g → valued (record { var = g; neg = not b } ∷ ls) q ≡ valued ls q
valued_there ls g b q d = let ne : g ≢ q = omega (arith, d) in ap (λ (t : Bool). if t then Some (not (not b)) else valued ls q) (ne_eqb g q ne)

-- before the first node
pub spread_start : (ns : List AigNode) (marks : List Bool) → Spreads ns marks 0 [] (inputs_of ns) []
spread_start ns marks bits count = record {
  added = [];
  propagated = tt;
  assigned = λ q h. (get_or bits q false, bits_here q h);
  opens = λ q h. assigned_none 0 bits q (omega (arith, h, count));
  bits_stay = λ i h. bits_here i h;
  values = λ k h z m. absurd (omega (arith, h));
}
  where
    bits_here : (i : ℕ) → i < inputs_of ns → valued (assigned_from 0 bits) i ≡ Some (get_or bits i false)
    bits_here i h = let e : 0 + i ≡ i = omega arith in ap (valued (assigned_from 0 bits)) (sym e) ∙ assigned_value 0 bits i (omega (arith, h, count))

module _ (ns : List AigNode) (marks : List Bool) (circuit : IsCircuit ns) (n : ℕ) (names : List ℕ) (vars : ℕ) (cs : List (List Lit)) (so_far : Encoded ns marks n names vars cs) (bits : List Bool) (spread : Spread ns marks n names vars cs bits) where
  -- a node without clauses
  pub spread_plain : (m : ℕ) (p : AigNode) → slice_get ns n ≡ Some p → ((x y : Edge) → mark marks n ≡ true → p ≡ nodes.And x y → ⊥) → ((i : ℕ) → p ≡ nodes.Input i → m ≡ i) → Spread ns marks (n + 1) (names ++ m ∷ []) vars cs bits
  spread_plain m p at no_gate is_input = record {
    added = spread.added;
    propagated = spread.propagated;
    assigned = spread.assigned;
    opens = spread.opens;
    bits_stay = spread.bits_stay;
    values = λ k h z mk. elim (cases_eq k n) [
      | inl e ↦ ap (λ (j : ℕ). valued (spread.added ++ assigned_from 0 bits) (name (names ++ m ∷ []) j)) e ∙ (ap (valued (spread.added ++ assigned_from 0 bits)) (get_or_push names m 0 n so_far.long) ∙ (here p at no_gate is_input (omega (arith, z, e)) (ap (mark marks) (sym e) ∙ mk) ∙ ap (λ (j : ℕ). Some (get_or (values_of bits ns) j false)) (sym e)))
      | inr d ↦ let before : k < n = omega (arith, h, d) in ap (valued (spread.added ++ assigned_from 0 bits)) (kept ns marks circuit n names vars cs so_far m k before) ∙ spread.values k before z mk
    ];
  }
    where
      here : (p : AigNode) → slice_get ns n ≡ Some p → ((x y : Edge) → mark marks n ≡ true → p ≡ nodes.And x y → ⊥) → ((i : ℕ) → p ≡ nodes.Input i → m ≡ i) → 0 < n → mark marks n ≡ true → valued (spread.added ++ assigned_from 0 bits) m ≡ Some (get_or (values_of bits ns) n false)
      here nodes.Constant at no_gate is_input z mk = let f = circuit.1 n nodes.Constant at in absurd (omega (arith, f, z))
      here (nodes.Input i) at no_gate is_input z mk = ap (valued (spread.added ++ assigned_from 0 bits)) (is_input i refl) ∙ (spread.bits_stay i (input_low ns marks circuit n i at) ∙ ap (λ (b : Bool). Some b) (sym (node_value bits ns n (nodes.Input i) circuit.1 at)))
      here (nodes.And x y) at no_gate is_input z mk = absurd (no_gate x y mk refl)

  -- a gate with its clauses
  pub spread_gate : (x y : Edge) → slice_get ns n ≡ Some (nodes.And x y) → mark marks x.node ≡ true → mark marks y.node ≡ true
      → Spread ns marks (n + 1) (names ++ vars ∷ []) (vars + 1) (cs ++ gate_clauses (record { var = vars; neg = false }) (lit_of names x) (lit_of names y)) bits
  spread_gate x y at mx my =
      let ls = spread.added ++ assigned_from 0 bits in
      let vs = values_of bits ns in
      let f = gate_children ns marks circuit n x y at in
      let ex = edge_assigned ls names x vs (spread.values x.node (omega (arith, f.1, f.2)) f.0 mx) in
      let ey = edge_assigned ls names y vs (spread.values y.node f.2 (omega (arith, f.0, f.1)) my) in
      let b = edge_of vs x && edge_of vs y in
      let gs = gate_clauses (record { var = vars; neg = false }) (lit_of names x) (lit_of names y) in
      let unit = gate_unit ls vars (lit_of names x) (lit_of names y) (edge_of vs x) (edge_of vs y) (spread.opens vars (omega arith)) ex ey in
      let m : Lit = record { var = vars; neg = not b } in
      let there : (q : ℕ) → q ≢ vars → valued (m ∷ ls) q ≡ valued ls q = valued_there ls vars b in
      record {
        added = m ∷ spread.added;
        propagated = (unit.0, clause_later cs gs unit.0 unit.1, unit.2, propagated_kept cs gs (assigned_from 0 bits) spread.added spread.propagated);
        assigned = λ q h. elim (cases_eq q vars) [
          | inl e ↦ (b, ap (valued (m ∷ ls)) e ∙ valued_here ls vars b)
          | inr d ↦ let old = spread.assigned q (omega (arith, h, d)) in (old.0, there q d ∙ old.1)
        ];
        opens = λ q h. there q (omega (arith, h)) ∙ spread.opens q (omega (arith, h));
        bits_stay = λ i h. there i (omega (arith, h, so_far.low)) ∙ spread.bits_stay i h;
        values = λ k h z mk. elim (cases_eq k n) [
          | inl e ↦
              ap (λ (j : ℕ). valued (m ∷ ls) (name (names ++ vars ∷ []) j)) e
              ∙ (ap (valued (m ∷ ls)) (get_or_push names vars 0 n so_far.long)
              ∙ (valued_here ls vars b
              ∙ (ap (λ (c : Bool). Some c) (sym (node_value bits ns n (nodes.And x y) circuit.1 at))
              ∙ ap (λ (j : ℕ). Some (get_or vs j false)) (sym e))))
          | inr d ↦
              let before : k < n = omega (arith, h, d) in
              let low = name_low ns marks circuit n names vars cs so_far 0 k before z mk (omega (arith, before, slice_get_within ns n _ at)) in
              ap (valued (m ∷ ls)) (kept ns marks circuit n names vars cs so_far vars k before) ∙ (there (name names k) (omega (arith, low)) ∙ spread.values k before z mk)
        ];
      }

-- one node more
pub spread_step : (ns : List AigNode) (marks : List Bool) (root n : ℕ) (names more : List ℕ) (vars next : ℕ) (cs ds : List (List Lit)) (p : AigNode) (b : Bool) → IsCircuit ns → AreMarked ns root marks → Encoded ns marks n names vars cs → Spreads ns marks n names vars cs
    → slice_get ns n ≡ Some p → b ≡ mark marks n → more ≡ names ++ name_of vars b p ∷ [] → ds ≡ cs ++ clauses_of names vars b p → next ≡ vars_after vars b p → Spreads ns marks (n + 1) more next ds
spread_step ns marks root n names more vars next cs ds p b circuit are so_far spreads at is em ed en bits count =
    let step : Spread ns marks (n + 1) (names ++ name_of vars b p ∷ []) (vars_after vars b p) (cs ++ clauses_of names vars b p) bits = go p b at is in
    subst (λ (l : List ℕ). Spread ns marks (n + 1) l next ds bits) (sym em) (subst (λ (k : ℕ). Spread ns marks (n + 1) (names ++ name_of vars b p ∷ []) k ds bits) (sym en) (subst (λ (l : List (List Lit)). Spread ns marks (n + 1) (names ++ name_of vars b p ∷ []) (vars_after vars b p) l bits) (sym ed) step))
  where
    none : (m k : ℕ) → Spread ns marks (n + 1) (names ++ m ∷ []) k cs bits → Spread ns marks (n + 1) (names ++ m ∷ []) k (cs ++ []) bits
    none m k e = subst (λ (l : List (List Lit)). Spread ns marks (n + 1) (names ++ m ∷ []) k l bits) (sym (append-nil cs)) e

    go : (p : AigNode) (b : Bool) → slice_get ns n ≡ Some p → b ≡ mark marks n → Spread ns marks (n + 1) (names ++ name_of vars b p ∷ []) (vars_after vars b p) (cs ++ clauses_of names vars b p) bits
    go nodes.Constant b at is = none 0 vars (spread_plain ns marks circuit n names vars cs so_far bits (spreads bits count) 0 nodes.Constant at (λ x y m e. cc) (λ i e. absurd cc))
    go (nodes.Input i) b at is = none i vars (spread_plain ns marks circuit n names vars cs so_far bits (spreads bits count) i (nodes.Input i) at (λ x y m e. cc) (λ j e. cc))
    go (nodes.And x y) true at is =
        let both = are.closed n x y (sym is) at in
        spread_gate ns marks circuit n names vars cs so_far bits (spreads bits count) x y at both.0 both.1
    go (nodes.And x y) false at is = none 0 vars (spread_plain ns marks circuit n names vars cs so_far bits (spreads bits count) 0 (nodes.And x y) at (λ a b m e. let wrong : false ≡ true = is ∙ m in cc) (λ i e. absurd cc))

-- with the root's clause, each assignment of the inputs is completed or refuted
pub decided : (ns : List AigNode) (marks : List Bool) (root : Edge) (names : List ℕ) (vars : ℕ) (cs : List (List Lit)) → AreMarked ns root.node marks → root.node < length ns → 0 < root.node → Spreads ns marks (length ns) names vars cs
    → IsDecided (inputs_of ns) (record { vars = vars; clauses = cs ++ (lit_of names root ∷ []) ∷ [] })
decided ns marks root names vars cs are inside some spreads bits count =
    let s = spreads bits count in
    let ls = s.added ++ assigned_from 0 bits in
    let value = edge_assigned ls names root (values_of bits ns) (s.values root.node inside some are.top) in
    (s.added, propagated_kept cs ((lit_of names root ∷ []) ∷ []) (assigned_from 0 bits) s.added s.propagated, ends (edge_of (values_of bits ns) root) value)
  where
    ends : (b : Bool) → lit_value ((spreads bits count).added ++ assigned_from 0 bits) (lit_of names root) ≡ Some b
        → IsCompleted vars ((spreads bits count).added ++ assigned_from 0 bits) ⊎ IsRefuted (cs ++ (lit_of names root ∷ []) ∷ []) ((spreads bits count).added ++ assigned_from 0 bits)
    ends true e = inl (spreads bits count).assigned
    ends false e = inr (lit_of names root ∷ [], clause_later cs ((lit_of names root ∷ []) ∷ []) (lit_of names root ∷ []) (0, refl), λ m h. elim h [ inl same ↦ subst (λ (k : Lit). lit_value ((spreads bits count).added ++ assigned_from 0 bits) k ≡ Some false) same e | inr z ↦ absurd z ])

-- the clauses of a constant leave nothing open
pub constant_decided : (n : ℕ) (cs : List (List Lit)) → IsDecided n (record { vars = n; clauses = cs })
constant_decided n cs bits count = ([], tt, inl (λ q h. let e : 0 + q ≡ q = omega arith in (get_or bits q false, ap (valued (assigned_from 0 bits)) (sym e) ∙ assigned_value 0 bits q (omega (arith, h, count)))))
