-- Formulas, lines and logs are equal exactly where `==` says so.
use Rattle.std.proofs.Common.{◌≡◌, ℕ, Bool, true, ◌&&◌, eqb, List, [], ◌∷◌, map, Vec, Global, refl, sym, subst, ◌∙◌, ap}
use Rattle.std.specs.Bool.{Decides, beq}
use Rattle.std.specs.Cmp.{booleans_Decides}
use Rattle.std.proofs.lemmas.Bool.{and_parts, eqb-true, eq-eqb}
use Rattle.std.proofs.lemmas.Bool.Decides.{Decides-eqb}
use Rattle.std.specs.Cmp.Lexicographic.{pointwise}
use Rattle.std.proofs.lemmas.Slice.Eq.{slice_eq-Decides}
use Rattle.kn_cnf.specs.declared.clauses.Lit.{Lit}
use Rattle.kn_cnf.specs.Formulas.{Formula, Step, items_of}

-- what `==` tests of two literals
abbrev pub same_lit : Lit → Lit → Bool
same_lit l m = eqb l.var m.var && beq l.neg m.neg

same_lit_is : (l m : Lit) → same_lit l m ≡ true → l ≡ m
same_lit_is l m h =
    let parts = and_parts (eqb l.var m.var) (beq l.neg m.neg) h in
    ap (λ (n : ℕ). record { var = n; neg = l.neg }) (eqb-true l.var m.var parts.0) ∙ ap (λ (b : Bool). record { var = m.var; neg = b }) ((booleans_Decides l.neg m.neg).0 parts.1)

lit_itself : (l : Lit) → same_lit l l ≡ true
lit_itself l = rw (eq-eqb l.var l.var refl) ((booleans_Decides l.neg l.neg).1 refl)

pub lit_decides : (l m : Lit) → Decides (same_lit l m) (l ≡ m)
lit_decides l m = (same_lit_is l m, λ same. subst (λ (k : Lit). same_lit l k ≡ true) same (lit_itself l))

lits_decide : (xs ys : List Lit) → Decides (pointwise same_lit xs ys) (xs ≡ ys)
lits_decide xs ys = slice_eq-Decides lit_decides xs ys _ refl

-- two tests that decide two parts decide the whole
both_decide : {P Q R : Type 0} (a b r : Bool) → Decides a P → Decides b Q → r ≡ (a && b) → (P → Q → R) → (R → P) → (R → Q) → Decides r R
both_decide a b r da db is make first second = (
  λ h. let parts = and_parts a b (sym is ∙ h) in make (da.0 parts.0) (db.0 parts.1),
  λ h. is ∙ (ap (λ (x : Bool). x && b) (da.1 (first h)) ∙ db.1 (second h)),
)

-- clauses compare as lists of lists
pub pointwise_items : (xs ys : List (Vec Lit Global)) → pointwise (λ (a b : Vec Lit Global). pointwise same_lit a.items b.items) xs ys ≡ pointwise (pointwise same_lit) (map items_of xs) (map items_of ys)
pointwise_items [] [] = refl
pointwise_items [] (y ∷ ys) = refl
pointwise_items (x ∷ xs) [] = refl
pointwise_items (x ∷ xs) (y ∷ ys) = ap (λ (b : Bool). pointwise same_lit x.items y.items && b) (pointwise_items xs ys)

-- two formulas
pub formula_decides : (f g : Formula) (a b r : Bool) → Decides a (f.vars ≡ g.vars) → b ≡ pointwise (pointwise same_lit) f.clauses g.clauses → r ≡ (a && b) → Decides r (f ≡ g)
formula_decides f g a b r da eb is =
    both_decide a b r da (slice_eq-Decides lits_decide f.clauses g.clauses b eb) is
    (λ e h. ap (λ (n : ℕ). record { vars = n; clauses = f.clauses }) e ∙ ap (λ (cs : List (List Lit)). record { vars = g.vars; clauses = cs }) h)
    (ap (λ (x : Formula). x.vars)) (ap (λ (x : Formula). x.clauses))

-- two lines
pub step_decides : (s t : Step) (a b r : Bool) → a ≡ pointwise same_lit s.clause t.clause → b ≡ pointwise eqb s.hints t.hints → r ≡ (a && b) → Decides r (s ≡ t)
step_decides s t a b r ea eb is =
    both_decide a b r (slice_eq-Decides lit_decides s.clause t.clause a ea) (slice_eq-Decides Decides-eqb s.hints t.hints b eb) is
    (λ e h. ap (λ (c : List Lit). record { clause = c; hints = s.hints }) e ∙ ap (λ (n : List ℕ). record { clause = t.clause; hints = n }) h)
    (ap (λ (x : Step). x.clause)) (ap (λ (x : Step). x.hints))

-- what `==` tests of two lines
abbrev pub same_step : Step → Step → Bool
same_step s t = pointwise same_lit s.clause t.clause && pointwise eqb s.hints t.hints

pub steps_decide : (s t : Step) → Decides (same_step s t) (s ≡ t)
steps_decide s t = step_decides s t _ _ _ refl refl refl
