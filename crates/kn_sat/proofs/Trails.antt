-- What is assigned along a trail.
use Rattle.std.proofs.Common.{◌≡◌, ◌≢◌, ℕ, zero, suc, ◌<◌, Bool, not, List, [], ◌∷◌, ◌++◌, refl, ap, sym, ◌∙◌, inl, inr}
use Rattle.std.specs.Prelude.{Some, None, slice_get, if◌then◌else◌}
use Rattle.std.specs.declared.option.Option.{Option}
use Rattle.std.specs.Option.{option_map}
use Rattle.std.proofs.lemmas.Bool.{cases_eq, eq-eqb, ne_eqb}
use Rattle.kn_cnf.specs.declared.clauses.Lit.{Lit}
use Rattle.kn_cnf.specs.Units.{valued, lit_value}
use Rattle.kn_sat.specs.declared.trail.Assigned.{Assigned}
use Rattle.kn_sat.specs.declared.trail.Reason.{Reason}
use Rattle.kn_sat.specs.declared.trail.Reason.TheVariants as reasons
use Rattle.kn_sat.specs.Trails.{onto, AreOpened, IsReason, IsTrail, IsLink}

-- an assignment with one literal more
pub valued_own : (ls : List Lit) (l : Lit) → valued (l ∷ ls) l.var ≡ Some (not l.neg)
valued_own ls l = ap (λ (t : Bool). if t then Some (not l.neg) else valued ls l.var) (eq-eqb l.var l.var refl)

pub valued_other : (ls : List Lit) (l : Lit) (q : ℕ) → l.var ≢ q → valued (l ∷ ls) q ≡ valued ls q
valued_other ls l q d = ap (λ (t : Bool). if t then Some (not l.neg) else valued ls q) (ne_eqb l.var q d)

-- one variable has one value
pub valued_clash : (ls : List Lit) (q : ℕ) (b : Bool) → valued ls q ≡ None → valued ls q ≡ Some b → ⊥
valued_clash ls q b none some = let wrong : None ≡ Some b = sym none ∙ some in cc

-- an open literal keeps what was assigned
pub valued_kept : (ls : List Lit) (l : Lit) (q : ℕ) (b : Bool) → valued ls l.var ≡ None → valued ls q ≡ Some b → valued (l ∷ ls) q ≡ Some b
valued_kept ls l q b opens is = elim (cases_eq l.var q) [
  | inl e ↦ absurd (valued_clash ls q b (ap (valued ls) (sym e) ∙ opens) is)
  | inr d ↦ valued_other ls l q d ∙ is
]

-- a literal is open exactly where its variable is
pub lit_opens : (ls : List Lit) (l : Lit) → valued ls l.var ≡ None → lit_value ls l ≡ None
lit_opens ls l e = ap (option_map (λ b. if l.neg then not b else b)) e

pub var_opens : (ls : List Lit) (l : Lit) → lit_value ls l ≡ None → valued ls l.var ≡ None
var_opens ls l e = go (valued ls l.var) e
  where
    go : (o : Option Bool) → option_map (λ b. if l.neg then not b else b) o ≡ None → o ≡ None
    go None e = refl
    go (Some b) e = absurd cc

-- a literal keeps its value where its variable does
pub lit_kept : (ls ms : List Lit) (l : Lit) (b : Bool) → ((c : Bool) → valued ls l.var ≡ Some c → valued ms l.var ≡ Some c) → lit_value ls l ≡ Some b → lit_value ms l ≡ Some b
lit_kept ls ms l b keeps is = go (valued ls l.var) refl is
  where
    go : (o : Option Bool) → valued ls l.var ≡ o → option_map (λ b. if l.neg then not b else b) o ≡ Some b → lit_value ms l ≡ Some b
    go None at e = absurd cc
    go (Some c) at e = ap (option_map (λ b. if l.neg then not b else b)) (keeps c at) ∙ e

-- the literals with one more at the end
pub onto_more : (ls : List Lit) (es : List Assigned) (e : Assigned) → onto ls (es ++ e ∷ []) ≡ e.literal ∷ onto ls es
onto_more ls [] e = refl
onto_more ls (d ∷ ds) e = onto_more (d.literal ∷ ls) ds e

pub onto_append : (ls : List Lit) (es fs : List Assigned) → onto ls (es ++ fs) ≡ onto (onto ls es) fs
onto_append ls [] fs = refl
onto_append ls (d ∷ ds) fs = onto_append (d.literal ∷ ls) ds fs

-- what is opened in order
pub opened_more : (n : ℕ) (ls : List Lit) (es : List Assigned) (e : Assigned) → AreOpened n ls es → (e.literal).var < n → valued (onto ls es) (e.literal).var ≡ None → AreOpened n ls (es ++ e ∷ [])
opened_more n ls [] e a below opens = (below, opens, tt)
opened_more n ls (d ∷ ds) e a below opens = (a.0, a.1, opened_more n (d.literal ∷ ls) ds e a.2 below opens)

pub opened_front : (n : ℕ) (ls : List Lit) (es : List Assigned) (e : Assigned) → AreOpened n ls (es ++ e ∷ []) → AreOpened n ls es × ((e.literal).var < n) × (valued (onto ls es) (e.literal).var ≡ None)
opened_front n ls [] e a = (tt, a.0, a.1)
opened_front n ls (d ∷ ds) e a = let rest = opened_front n (d.literal ∷ ls) ds e a.2 in ((a.0, a.1, rest.0), rest.1, rest.2)

-- the literal that has a reason was open
pub reason_opens : (cs : List (List Lit)) (n : ℕ) (ls : List Lit) (l : Lit) (r : Reason) → IsReason cs n ls l r → valued ls l.var ≡ None
reason_opens cs n ls l reasons.Decision d = d.opens
reason_opens cs n ls l (reasons.Clause h) u = var_opens ls l (u.2).opens

pub link_opens : (cs : List (List Lit)) (ls : List Lit) (l : Lit) (r : Reason) → IsLink cs ls l r → valued ls l.var ≡ None
link_opens cs ls l reasons.Decision d = d.1
link_opens cs ls l (reasons.Clause h) u = var_opens ls l (u.2).opens

-- what is assigned stays so along the trail
pub onto_kept : (cs : List (List Lit)) (n : ℕ) (ls : List Lit) (es : List Assigned) (q : ℕ) (b : Bool) → IsTrail cs n ls es → valued ls q ≡ Some b → valued (onto ls es) q ≡ Some b
onto_kept cs n ls [] q b t is = is
onto_kept cs n ls (e ∷ es) q b t is = onto_kept cs n (e.literal ∷ ls) es q b t.1 (valued_kept ls e.literal q b (reason_opens cs n ls e.literal e.reason t.0) is)

-- a trail in two parts
pub trail_front : (cs : List (List Lit)) (n : ℕ) (ls : List Lit) (es fs : List Assigned) → IsTrail cs n ls (es ++ fs) → IsTrail cs n ls es × IsTrail cs n (onto ls es) fs
trail_front cs n ls [] fs t = (tt, t)
trail_front cs n ls (e ∷ es) fs t = let rest = trail_front cs n (e.literal ∷ ls) es fs t.1 in ((t.0, rest.0), rest.1)

pub trail_more : (cs : List (List Lit)) (n : ℕ) (ls : List Lit) (es : List Assigned) (e : Assigned) → IsTrail cs n ls es → IsReason cs n (onto ls es) e.literal e.reason → IsTrail cs n ls (es ++ e ∷ [])
trail_more cs n ls [] e t r = (r, tt)
trail_more cs n ls (d ∷ ds) e t r = (t.0, trail_more cs n (d.literal ∷ ls) ds e t.1 r)

-- a clause keeps its number where more follow
pub clause_kept : (cs ds : List (List Lit)) (h : ℕ) (c : List Lit) → slice_get cs h ≡ Some c → slice_get (cs ++ ds) h ≡ Some c
clause_kept [] ds h c e = absurd cc
clause_kept (b ∷ bs) ds zero c e = e
clause_kept (b ∷ bs) ds (suc h) c e = clause_kept bs ds h c e

reason_kept : (cs ds : List (List Lit)) (n : ℕ) (ls : List Lit) (l : Lit) (r : Reason) → IsReason cs n ls l r → IsReason (cs ++ ds) n ls l r
reason_kept cs ds n ls l reasons.Decision d = d
reason_kept cs ds n ls l (reasons.Clause h) u = (u.0, clause_kept cs ds h u.0 u.1, u.2)

pub trail_kept : (cs ds : List (List Lit)) (n : ℕ) (ls : List Lit) (es : List Assigned) → IsTrail cs n ls es → IsTrail (cs ++ ds) n ls es
trail_kept cs ds n ls [] t = tt
trail_kept cs ds n ls (e ∷ es) t = (reason_kept cs ds n ls e.literal e.reason t.0, trail_kept cs ds n (e.literal ∷ ls) es t.1)
