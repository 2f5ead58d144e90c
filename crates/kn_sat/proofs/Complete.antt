-- Where each input is assigned and no clause is false or unit, all clauses are met.
use Rattle.std.proofs.Common.{◌≡◌, ℕ, zero, suc, ◌+◌, ◌<◌, Bool, true, false, not, ◌||◌, ◌&&◌, List, [], ◌∷◌, ◌++◌, length, get_or, refl, ap, sym, subst, ◌∙◌, inl, inr, arith}
use Rattle.std.specs.Prelude.{Some, None, slice_get, ◌⊎◌, if◌then◌else◌, unwrap_or}
use Rattle.std.specs.declared.option.Option.{Option}
use Rattle.std.specs.Option.{option_map}
use Rattle.std.specs.List.{AllByRecursion}
use Rattle.std.proofs.lemmas.Bool.{cases_eq, cases_lt}
use Rattle.kn_cnf.specs.declared.clauses.Lit.{Lit}
use Rattle.kn_cnf.specs.Encoding.{bits_from}
use Rattle.kn_cnf.specs.Formulas.{AreBelow}
use Rattle.kn_cnf.specs.Truth.{lit_true, clause_true, all_true, Meets}
use Rattle.kn_cnf.specs.Units.{valued, lit_value, Has, IsFalse, IsUnit, HasClause, IsPropagated, IsRefuted, assigned_from, IsDecided}
use Rattle.kn_cnf.proofs.Spreading.{assigned_value, assigned_none}
use Rattle.kn_cnf.proofs.Literals.{same_or_not}
use Rattle.kn_sat.specs.declared.trail.Assigned.{Assigned}
use Rattle.kn_sat.specs.Trails.{latest, bit}
use Rattle.kn_sat.specs.Propagating.{AreCalm, AreAssigned}
use Rattle.kn_sat.proofs.Numbers.{length-bits_from}
use Rattle.kn_sat.proofs.Trails.{valued_own, valued_other, valued_clash, lit_kept}

-- a bit of the first values
get_or-bits_from : (f : ℕ → Bool) (i n j : ℕ) → j < n → get_or (bits_from f i n) j false ≡ f (i + j)
get_or-bits_from f i zero j h = absurd (omega arith)
get_or-bits_from f i (suc n) zero h = let e : i ≡ i + 0 = omega arith in ap f e
get_or-bits_from f i (suc n) (suc j) h = let e : (i + 1) + j ≡ i + suc j = omega arith in get_or-bits_from f (i + 1) n j (omega (arith, h)) ∙ ap f e

-- a literal that is true says the value of its variable
true_value : (ls : List Lit) (l : Lit) → lit_value ls l ≡ Some true → valued ls l.var ≡ Some (not l.neg)
true_value ls l e = go l.neg (valued ls l.var) e
  where
    go : (n : Bool) (o : Option Bool) → option_map (λ b. if n then not b else b) o ≡ Some true → o ≡ Some (not n)
    go n None e = absurd cc
    go true (Some true) e = absurd cc
    go true (Some false) e = refl
    go false (Some true) e = refl
    go false (Some false) e = absurd cc

module _ (n : ℕ) (cs : List (List Lit)) (es : List Assigned) (calm : AreCalm cs es) (assigned : AreAssigned n (latest es)) where
  -- the inputs' values
  abbrev start : List Lit
  start = assigned_from 0 (bits_from (bit (latest es)) 0 n)

  -- the bits are assigned so
  start_agrees : (q : ℕ) (b : Bool) → valued (start) q ≡ Some b → valued (latest es) q ≡ Some b
  start_agrees q b is = elim (cases_lt q n) [
    | inl low ↦
        let bits = bits_from (bit (latest es)) 0 n in
        let at = assigned q low in
        let e : 0 + q ≡ q = omega arith in
        let inside : q < length bits = omega (arith, low, length-bits_from (bit (latest es)) 0 n) in
        let there : valued (assigned_from 0 bits) q ≡ Some (bit (latest es) q) = ap (valued (assigned_from 0 bits)) (sym e) ∙ (assigned_value 0 bits q inside ∙ ap (λ (c : Bool). Some c) (get_or-bits_from (bit (latest es)) 0 n q low ∙ ap (bit (latest es)) e)) in
        let value : bit (latest es) q ≡ at.0 = ap (λ o. unwrap_or o false) at.1 in
        at.1 ∙ (ap (λ (c : Bool). Some c) (sym value) ∙ (sym there ∙ is))
    | inr high ↦ absurd (valued_clash (start) q b (assigned_none 0 (bits_from (bit (latest es)) 0 n) q (omega (arith, high, length-bits_from (bit (latest es)) 0 n))) is)
  ]

  -- a literal that unit propagation adds is true
  added_true : (ls c : List Lit) (m : Lit) → HasClause cs c → IsUnit ls c m → ((q : ℕ) (b : Bool) → valued ls q ≡ Some b → valued (latest es) q ≡ Some b) → valued (latest es) m.var ≡ Some (not m.neg)
  added_true ls c m has unit before = go (lit_value (latest es) m) refl
    where
      others : (k : Lit) → Has c k → (k ≡ m → ⊥) → lit_value (latest es) k ≡ Some false
      others k of d = lit_kept ls (latest es) k false (λ b value. before k.var b value) (unit.others k of d)

      go : (o : Option Bool) → lit_value (latest es) m ≡ o → valued (latest es) m.var ≡ Some (not m.neg)
      go None at = absurd ((calm has.0 c has.1).1 m (record { has = unit.has; opens = at; others = others }))
      go (Some true) at = true_value (latest es) m at
      go (Some false) at = absurd ((calm has.0 c has.1).0 (λ k of. elim (same_or_not k m) [
        | inl e ↦ ap (lit_value (latest es)) e ∙ at
        | inr d ↦ others k of d
      ]))

  -- what unit propagation adds is assigned so
  agrees : (added : List Lit) → IsPropagated cs start added → (q : ℕ) (b : Bool) → valued (added ++ start) q ≡ Some b → valued (latest es) q ≡ Some b
  agrees [] p q b is = start_agrees q b is
  agrees (m ∷ ms) p q b is = elim (cases_eq m.var q) [
    | inl e ↦
        let own = added_true (ms ++ start) p.0 m p.1 p.2 (λ r c value. agrees ms p.3 r c value) in
        subst (λ k. valued (latest es) k ≡ Some b) e (own ∙ (sym (valued_own (ms ++ start) m) ∙ (ap (valued (m ∷ (ms ++ start))) e ∙ is)))
    | inr d ↦ agrees ms p.3 q b (sym (valued_other (ms ++ start) m q d) ∙ is)
  ]

  -- no unit propagation refutes what is calm
  not_refuted : (added : List Lit) → IsPropagated cs start added → IsRefuted cs (added ++ start) → ⊥
  not_refuted added p r = (calm (r.1).0 r.0 (r.1).1).0 (λ m has. lit_kept (added ++ start) (latest es) m false (λ b is. agrees added p m.var b is) (r.2 m has))

  -- each variable is assigned
  pub completed : (vars : ℕ) → IsDecided n (record { vars = vars; clauses = cs }) → AreAssigned vars (latest es)
  completed vars decided q low =
      let all = decided (bits_from (bit (latest es)) 0 n) (length-bits_from (bit (latest es)) 0 n) in
      elim all.2 [
        | inl whole ↦ let at = whole q low in (at.0, agrees all.0 all.1 q at.0 at.1)
        | inr refuted ↦ absurd (not_refuted all.0 all.1 refuted)
      ]

-- the truth of a literal is its value
literal_true : (ls : List Lit) (m : Lit) (b : Bool) → valued ls m.var ≡ Some b → Some (lit_true (bit ls) m) ≡ lit_value ls m
literal_true ls m b is =
    ap (λ (c : Bool). Some (if m.neg then not c else c)) (ap (λ o. unwrap_or o false) is)
    ∙ sym (ap (option_map (λ c. if m.neg then not c else c)) is)

-- a clause whose variables are assigned is true or false
true_or_false : (ls : List Lit) (n : ℕ) (c : List Lit) → AreAssigned n ls → AllByRecursion (λ (m : Lit). m.var < n) c → (clause_true (bit ls) c ≡ true) ⊎ IsFalse ls c
true_or_false ls n [] all below = inr (λ m has. absurd has)
true_or_false ls n (m ∷ ms) all below = go (lit_true (bit ls) m) refl (true_or_false ls n ms all below.1)
  where
    go : (b : Bool) → lit_true (bit ls) m ≡ b → (clause_true (bit ls) ms ≡ true) ⊎ IsFalse ls ms → (clause_true (bit ls) (m ∷ ms) ≡ true) ⊎ IsFalse ls (m ∷ ms)
    go true is rest = inl (ap (λ (b : Bool). b || clause_true (bit ls) ms) is)
    go false is rest = elim rest [
      | inl t ↦ inl (ap (λ (b : Bool). b || clause_true (bit ls) ms) is ∙ t)
      | inr f ↦ inr (λ k has. elim has [
        | inl e ↦
            let at = all m.var below.0 in
            ap (lit_value ls) (sym e) ∙ (sym (literal_true ls m at.0 at.1) ∙ ap (λ (b : Bool). Some b) is)
        | inr g ↦ f k g
      ])
    ]

-- clauses that are not false are met
met : (ls : List Lit) (n : ℕ) (cs : List (List Lit)) → AreAssigned n ls → AreBelow n cs → ((h : ℕ) (c : List Lit) → slice_get cs h ≡ Some c → IsFalse ls c → ⊥) → Meets (bit ls) cs
met ls n [] all below not_false = refl
met ls n (c ∷ cs) all below not_false = elim (true_or_false ls n c all below.0) [
  | inl is ↦ ap (λ (b : Bool). b && all_true (bit ls) cs) is ∙ met ls n cs all below.1 (λ h d at. not_false (suc h) d at)
  | inr f ↦ absurd (not_false 0 c refl f)
]

pub meets : (n vars : ℕ) (cs : List (List Lit)) (es : List Assigned) → AreBelow vars cs → IsDecided n (record { vars = vars; clauses = cs }) → AreCalm cs es → AreAssigned n (latest es) → Meets (bit (latest es)) cs
meets n vars cs es below decided calm assigned = met (latest es) vars cs (completed n cs es calm assigned vars decided) below (λ h c at f. (calm h c at).0 f)
