-- A log that checks leaves no values that meet the clauses.
use Rattle.std.proofs.Common.{◌≡◌, ℕ, zero, suc, Bool, true, false, not, ◌||◌, ◌&&◌, eqb, List, [], ◌∷◌, ◌++◌, refl, ap, sym, subst, ◌∙◌, inl, inr}
use Rattle.std.specs.Prelude.{Some, None, slice_get, if◌then◌else◌}
use Rattle.std.specs.declared.option.Option.{Option}
use Rattle.std.specs.Option.{option_map}
use Rattle.std.proofs.lemmas.Bool.{cases_Bool, and_parts, eqb-true}
use Rattle.kn_cnf.specs.declared.clauses.Lit.{Lit}
use Rattle.kn_cnf.specs.Formulas.{Step}
use Rattle.kn_cnf.specs.Truth.{lit_true, clause_true, all_true, Meets, AreNeverMet}
use Rattle.kn_cnf.specs.Units.{negated, valued, lit_value, Has}
use Rattle.kn_cnf.specs.Good.{falsified, Refutes, IsGood, AreGood, Checks}
use Rattle.kn_cnf.proofs.Literals.{same_or_not, open_false}

-- each of these literals is true
abbrev pub AllTrue : (ℕ → Bool) → List Lit → Type 0
AllTrue v ls = (l : Lit) → Has ls l → lit_true v l ≡ true

negated_true : (v : ℕ → Bool) (l : Lit) → lit_true v (negated l) ≡ not (lit_true v l)
negated_true v l = go l.neg (v l.var)
  where
    go : (n b : Bool) → (if not n then not b else b) ≡ not (if n then not b else b)
    go true true = refl
    go true false = refl
    go false b = refl

-- the literal that gives a variable this value
abbrev pub valued_so : ℕ → Bool → Lit
valued_so q b = record { var = q; neg = not b }

-- what a variable is assigned, one of the literals says
pub valued_has : (ls : List Lit) (q : ℕ) (b : Bool) → valued ls q ≡ Some b → Has ls (valued_so q b)
valued_has [] q b e = absurd cc
valued_has (l ∷ ls) q b e =
    elim (cases_Bool (eqb l.var q)) [
      | inl is ↦
          let same : l.var ≡ q = eqb-true l.var q is in
          let value : Some (not l.neg) ≡ Some b = sym (ap (λ (t : Bool). if t then Some (not l.neg) else valued ls q) is) ∙ e in
          inl (built l.neg b value ∙ ap (λ (k : ℕ). valued_so k b) same)
      | inr is ↦ inr (valued_has ls q b (sym (ap (λ (t : Bool). if t then Some (not l.neg) else valued ls q) is) ∙ e))
    ]
  where
    built : (n b : Bool) → Some (not n) ≡ Some b → record { var = l.var; neg = n } ≡ valued_so l.var b
    built true true e = absurd cc
    built true false e = refl
    built false true e = refl
    built false false e = absurd cc

-- a literal that is assigned false is false where what is assigned is true
pub false_under : (v : ℕ → Bool) (ls : List Lit) (m : Lit) → AllTrue v ls → lit_value ls m ≡ Some false → lit_true v m ≡ false
false_under v ls m all e = go (valued ls m.var) refl e
  where
    from_variable : (n b : Bool) → v m.var ≡ b → Some (if n then not b else b) ≡ Some false → (if n then not (v m.var) else v m.var) ≡ false
    from_variable true true h k = rw h refl
    from_variable true false h k = absurd cc
    from_variable false true h k = absurd cc
    from_variable false false h k = h

    variable : (b : Bool) → lit_true v (valued_so m.var b) ≡ true → v m.var ≡ b
    variable true h = h
    variable false h = flipped (v m.var) h
      where
        flipped : (b : Bool) → not b ≡ true → b ≡ false
        flipped false h = refl
        flipped true h = absurd cc

    go : (o : Option Bool) → valued ls m.var ≡ o → lit_value ls m ≡ Some false → lit_true v m ≡ false
    go None is h = absurd (open_false (lit_value ls m) (ap (option_map (λ b. if m.neg then not b else b)) is) h)
    go (Some b) is h = from_variable m.neg b (variable b (all (valued_so m.var b) (valued_has ls m.var b is))) (sym (ap (option_map (λ b. if m.neg then not b else b)) is) ∙ h)

-- a true clause has a true literal
pub true_literal : (v : ℕ → Bool) (c : List Lit) → clause_true v c ≡ true → (l : Lit) × Has c l × (lit_true v l ≡ true)
true_literal v [] e = absurd cc
true_literal v (m ∷ ms) e =
    elim (cases_Bool (lit_true v m)) [
      | inl is ↦ (m, inl refl, is)
      | inr is ↦ let rest = true_literal v ms (sym (ap (λ (b : Bool). b || clause_true v ms) is) ∙ e) in (rest.0, inr rest.1, rest.2)
    ]

-- a clause of clauses that are met is true
pub met_at : (v : ℕ → Bool) (cs : List (List Lit)) (h : ℕ) (c : List Lit) → Meets v cs → slice_get cs h ≡ Some c → clause_true v c ≡ true
met_at v [] h c meets at = absurd cc
met_at v (d ∷ ds) h c meets at = go (λ k m e. met_at v ds k c m e) h at (and_parts (clause_true v d) (all_true v ds) meets)
  where
    go : ((k : ℕ) → all_true v ds ≡ true → slice_get ds k ≡ Some c → clause_true v c ≡ true) → (h : ℕ) → slice_get (d ∷ ds) h ≡ Some c → (clause_true v d ≡ true) × (all_true v ds ≡ true) → clause_true v c ≡ true
    go later zero at m = let same : d ≡ c = cc in sym (ap (clause_true v) same) ∙ m.0
    go later (suc k) at m = later k m.1 at

clash : (b : Bool) → b ≡ true → b ≡ false → ⊥
clash b t f = let wrong : true ≡ false = sym t ∙ f in cc

-- hints refute no assignment that is true under values that meet the clauses
refuted_never : (v : ℕ → Bool) (cs : List (List Lit)) (ls : List Lit) (hs : List ℕ) → Meets v cs → AllTrue v ls → Refutes cs ls hs → ⊥
refuted_never v cs ls [] meets all r = r
refuted_never v cs ls (h ∷ []) meets all r =
    let lit = true_literal v r.0 (met_at v cs h r.0 meets r.1) in
    clash (lit_true v lit.0) lit.2 (false_under v ls lit.0 all (r.2 lit.0 lit.1))
refuted_never v cs ls (h ∷ k ∷ hs) meets all r =
    let lit = true_literal v r.0 (met_at v cs h r.0 meets r.2) in
    let is : r.1 ≡ lit.0 = elim (same_or_not lit.0 r.1) [
      | inl e ↦ sym e
      | inr n ↦ absurd (clash (lit_true v lit.0) lit.2 (false_under v ls lit.0 all ((r.3).others lit.0 lit.1 n)))
    ] in
    let more : AllTrue v (r.1 ∷ ls) = λ l g. elim g [ inl e ↦ ap (lit_true v) (sym e ∙ is) ∙ lit.2 | inr g ↦ all l g ] in
    refuted_never v cs (r.1 ∷ ls) (k ∷ hs) meets more r.4

-- the literals of a false clause, turned, are true
pub falsified_true : (v : ℕ → Bool) (ls c : List Lit) → AllTrue v ls → clause_true v c ≡ false → AllTrue v (falsified ls c)
falsified_true v ls [] all e = all
falsified_true v ls (m ∷ ms) all e =
    let parts = neither (lit_true v m) (clause_true v ms) e in
    falsified_true v (negated m ∷ ls) ms (λ l g. elim g [ inl s ↦ ap (lit_true v) (sym s) ∙ (negated_true v m ∙ ap not parts.0) | inr g ↦ all l g ]) parts.1
  where
    neither : (a b : Bool) → (a || b) ≡ false → (a ≡ false) × (b ≡ false)
    neither false false e = (refl, refl)
    neither false true e = absurd cc
    neither true b e = absurd cc

-- the clause of a good line is true wherever the clauses before it are
pub good_follows : (v : ℕ → Bool) (cs : List (List Lit)) (s : Step) → IsGood cs s → Meets v cs → clause_true v s.clause ≡ true
good_follows v cs s good meets =
    elim (cases_Bool (clause_true v s.clause)) [
      | inl is ↦ is
      | inr is ↦ absurd (refuted_never v cs (falsified [] s.clause) s.hints meets (falsified_true v [] s.clause (λ l g. absurd g) is) good.refuted)
    ]

-- clauses that are met, with one more
pub meets_more : (v : ℕ → Bool) (cs : List (List Lit)) (c : List Lit) → Meets v cs → clause_true v c ≡ true → Meets v (cs ++ c ∷ [])
meets_more v [] c meets e = rw e refl
meets_more v (d ∷ ds) c meets e = go (λ m. meets_more v ds c m e) (clause_true v d) meets
  where
    go : (all_true v ds ≡ true → all_true v (ds ++ c ∷ []) ≡ true) → (b : Bool) → (b && all_true v ds) ≡ true → (b && all_true v (ds ++ c ∷ [])) ≡ true
    go later true m = later m
    go later false m = absurd cc

all_lines : (v : ℕ → Bool) (cs : List (List Lit)) (front : List Step) (last : Step) → AreGood cs (front ++ last ∷ []) → Meets v cs → clause_true v last.clause ≡ true
all_lines v cs [] last good meets = good_follows v cs last good.0 meets
all_lines v cs (s ∷ ss) last good meets = all_lines v (cs ++ s.clause ∷ []) ss last good.1 (meets_more v cs s.clause meets (good_follows v cs s good.0 meets))

-- no values meet the clauses against which a log checks
pub never_met : (cs : List (List Lit)) (log : List Step) → Checks cs log → AreNeverMet cs
never_met cs log checks v meets =
    let good = subst (AreGood cs) checks.ends.2 checks.good in
    let wrong : false ≡ true = all_lines v cs checks.ends.0 (record { clause = []; hints = checks.ends.1 }) good meets in
    cc
