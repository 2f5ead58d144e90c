-- How many variables are open.
use Rattle.std.proofs.Common.{◌≡◌, ◌≢◌, ℕ, zero, suc, ◌+◌, ◌<◌, ◌≤◌, Bool, List, [], ◌∷◌, ◌++◌, length, refl, ap, sym, subst, ◌∙◌, inl, inr, arith}
use Rattle.std.specs.Prelude.{Some, None, slice_get}
use Rattle.std.specs.declared.option.Option.{Option}
use Rattle.std.proofs.lemmas.Bool.{cases_eq}
use Rattle.std.proofs.lemmas.List.{length_push}
use Rattle.kn_cnf.specs.declared.clauses.Lit.{Lit}
use Rattle.kn_cnf.specs.Units.{valued, IsUnit}
use Rattle.kn_sat.specs.declared.trail.Assigned.{Assigned}
use Rattle.kn_sat.specs.declared.trail.Reason.TheVariants as reasons
use Rattle.kn_sat.specs.Trails.{latest, IsTrail, IsGrown, open_count, count_open}
use Rattle.kn_sat.specs.Propagating.{AreAssigned}
use Rattle.kn_sat.proofs.Trails.{valued_own, valued_other, valued_kept, var_opens, onto_more, trail_more, clause_kept}

one_at_most : (o : Option Bool) → open_count o ≤ 1
one_at_most None = omega arith
one_at_most (Some b) = omega arith

pub count_open-le : (k : ℕ) (ls : List Lit) → count_open k ls ≤ k
count_open-le zero ls = omega arith
count_open-le (suc k) ls = omega (arith, count_open-le k ls, one_at_most (valued ls k))

-- a literal beyond changes nothing
count_same : (k : ℕ) (ls : List Lit) (l : Lit) → k ≤ l.var → count_open k (l ∷ ls) ≡ count_open k ls
count_same zero ls l h = refl
count_same (suc k) ls l h =
    let other : l.var ≢ k = omega (arith, h) in
    omega (arith, ap open_count (valued_other ls l k other), count_same k ls l (omega (arith, h)))

-- an open literal is one less
pub count_less : (k : ℕ) (ls : List Lit) (l : Lit) → l.var < k → valued ls l.var ≡ None → count_open k (l ∷ ls) + 1 ≡ count_open k ls
count_less zero ls l h opens = absurd (omega arith)
count_less (suc k) ls l h opens = elim (cases_eq l.var k) [
  | inl e ↦
      let was : open_count (valued ls k) ≡ 1 = ap (λ q. open_count (valued ls q)) (sym e) ∙ ap open_count opens in
      let is : open_count (valued (l ∷ ls) k) ≡ 0 = ap (λ q. open_count (valued (l ∷ ls) q)) (sym e) ∙ ap open_count (valued_own ls l) in
      omega (arith, was, is, count_same k ls l (omega (arith, e)))
  | inr d ↦ omega (arith, ap open_count (valued_other ls l k d), count_less k ls l (omega (arith, h, d)) opens)
]

module _ (cs : List (List Lit)) (vars : ℕ) where
  pub grown_same : (es : List Assigned) → IsGrown cs vars es es
  grown_same es = record { trail = λ ds n t. t; kept = λ q b is. is; count = refl; longer = omega arith }

  -- by the open literal of a unit clause
  pub grown_unit : (old new : List Assigned) (c : List Lit) (l : Lit) (h : ℕ) → slice_get cs h ≡ Some c → IsUnit (latest old) c l → l.var < vars → new ≡ old ++ record { literal = l; reason = reasons.Clause h } ∷ [] → IsGrown cs vars old new
  grown_unit old new c l h at u below is =
      let e : Assigned = record { literal = l; reason = reasons.Clause h } in
      let literals : latest new ≡ l ∷ latest old = ap latest is ∙ onto_more [] old e in
      let opens : valued (latest old) l.var ≡ None = var_opens (latest old) l u.opens in
      let longer : length new ≡ length old + 1 = ap length is ∙ length_push old e in
      record {
        trail = λ ds n t. subst (IsTrail (cs ++ ds) n []) (sym is) (trail_more (cs ++ ds) n [] old e t (c, clause_kept cs ds h c at, u));
        kept = λ q b was. ap (λ (ls : List Lit). valued ls q) literals ∙ valued_kept (latest old) l q b opens was;
        count = omega (arith, ap (count_open vars) literals, count_less vars (latest old) l below opens, longer);
        longer = omega (arith, longer);
      }

-- what is assigned stays so
pub assigned_grown : (n vars : ℕ) (cs : List (List Lit)) (old new : List Assigned) → IsGrown cs vars old new → AreAssigned n (latest old) → AreAssigned n (latest new)
assigned_grown n vars cs old new grown all i low = let at = all i low in (at.0, grown.kept i at.0 at.1)
