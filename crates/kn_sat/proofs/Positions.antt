-- Values that meet the clauses do not come before what a trail assigns.
use Rattle.std.proofs.Common.{◌≡◌, ℕ, ◌≤◌, Bool, true, false, not, List, [], ◌∷◌, refl, ap, sym, ◌∙◌, inl, inr, arith}
use Rattle.std.specs.Prelude.{Some, None, slice_get, ◌⊎◌, if◌then◌else◌, unwrap_or}
use Rattle.std.proofs.lemmas.Bool.{cases_Bool}
use Rattle.kn_cnf.specs.declared.clauses.Lit.{Lit}
use Rattle.kn_cnf.specs.Truth.{lit_true, clause_true, Meets}
use Rattle.kn_cnf.specs.Units.{valued, IsFalse, IsUnit}
use Rattle.kn_cnf.proofs.Sound.{AllTrue, valued_so, valued_has, false_under, true_literal, met_at}
use Rattle.kn_cnf.proofs.Literals.{same_or_not}
use Rattle.kn_sat.specs.declared.trail.Assigned.{Assigned}
use Rattle.kn_sat.specs.declared.trail.Reason.{Reason}
use Rattle.kn_sat.specs.declared.trail.Reason.TheVariants as reasons
use Rattle.kn_sat.specs.Trails.{onto, IsReason, IsTrail, bit}
use Rattle.kn_sat.proofs.Numbers.{Later, rank, later_lt, rank_le}
use Rattle.kn_sat.proofs.Trails.{valued_own, onto_kept}

flipped : (b : Bool) → not b ≡ true → b ≡ false
flipped false h = refl
flipped true h = absurd cc

clash : (b : Bool) → b ≡ true → b ≡ false → ⊥
clash b t f = let wrong : true ≡ false = sym t ∙ f in cc

-- what is assigned is the value, where what is assigned is true
pub value_is : (v : ℕ → Bool) (ls : List Lit) (q : ℕ) (b : Bool) → AllTrue v ls → valued ls q ≡ Some b → v q ≡ b
value_is v ls q b all e = go b (all (valued_so q b) (valued_has ls q b e))
  where
    go : (b : Bool) → lit_true v (valued_so q b) ≡ true → v q ≡ b
    go true h = h
    go false h = flipped (v q) h

pub all_more : (v : ℕ → Bool) (ls : List Lit) (l : Lit) → AllTrue v ls → lit_true v l ≡ true → AllTrue v (l ∷ ls)
all_more v ls l all is m h = elim h [ inl e ↦ ap (lit_true v) (sym e) ∙ is | inr g ↦ all m g ]

-- the open literal of a unit clause is true
unit_true : (v : ℕ → Bool) (ls c : List Lit) (l : Lit) → AllTrue v ls → clause_true v c ≡ true → IsUnit ls c l → lit_true v l ≡ true
unit_true v ls c l all is u =
    let lit = true_literal v c is in
    elim (same_or_not lit.0 l) [
      | inl e ↦ ap (lit_true v) (sym e) ∙ lit.2
      | inr d ↦ absurd (clash (lit_true v lit.0) lit.2 (false_under v ls lit.0 all (u.others lit.0 lit.1 d)))
    ]

false_clash : (v : ℕ → Bool) (ls c : List Lit) → AllTrue v ls → clause_true v c ≡ true → IsFalse ls c → ⊥
false_clash v ls c all is f = let lit = true_literal v c is in clash (lit_true v lit.0) lit.2 (false_under v ls lit.0 all (f lit.0 lit.1))

module _ (v : ℕ → Bool) (cs : List (List Lit)) (n : ℕ) (meets : Meets v cs) where
  -- the values agree with the trail, or come behind it
  pub position : (ls : List Lit) (es : List Assigned) → IsTrail cs n ls es → AllTrue v ls → AllTrue v (onto ls es) ⊎ Later n (bit (onto ls es)) v
  position ls [] t all = inl all
  position ls (e ∷ es) t all = go e.reason t.0 (λ is. position (e.literal ∷ ls) es t.1 (all_more v ls e.literal all is))
    where
      go : (r : Reason) → IsReason cs n ls e.literal r → (lit_true v e.literal ≡ true → AllTrue v (onto (e.literal ∷ ls) es) ⊎ Later n (bit (onto (e.literal ∷ ls) es)) v) → AllTrue v (onto (e.literal ∷ ls) es) ⊎ Later n (bit (onto (e.literal ∷ ls) es)) v
      go reasons.Decision d later = elim (cases_Bool (v (e.literal).var)) [
        | inl is ↦ inr (record {
          place = (e.literal).var;
          inside = d.input;
          same = λ i h.
              let at = d.before i h in
              let there = onto_kept cs n ls (e ∷ es) i at.0 t at.1 in
              ap (λ o. unwrap_or o false) there ∙ sym (value_is v ls i at.0 all at.1);
          low = ap (λ o. unwrap_or o false) (onto_kept cs n (e.literal ∷ ls) es (e.literal).var (not (e.literal).neg) t.1 (valued_own ls e.literal)) ∙ ap not d.neg;
          high = is;
        })
        | inr is ↦ later (ap (λ (b : Bool). if b then not (v (e.literal).var) else v (e.literal).var) d.neg ∙ ap not is)
      ]
      go (reasons.Clause h) u later = later (unit_true v ls u.0 e.literal all (met_at v cs h u.0 meets u.1) u.2)

  -- none comes before the trail
  pub not_before : (es : List Assigned) → IsTrail cs n [] es → rank 0 (bit (onto [] es)) n ≤ rank 0 v n
  not_before es t = elim (position [] es t (λ l h. absurd h)) [
    | inl all ↦ rank_le (bit (onto [] es)) v 0 n (λ q low high is. agrees es all q is)
    | inr later ↦ omega (arith, later_lt n (bit (onto [] es)) v later)
  ]
    where
      agrees : (es : List Assigned) → AllTrue v (onto [] es) → (q : ℕ) → bit (onto [] es) q ≡ true → v q ≡ true
      agrees es all q is = go (valued (onto [] es) q) refl is
        where
          go : (o : _) → valued (onto [] es) q ≡ o → unwrap_or o false ≡ true → v q ≡ true
          go None at is = absurd cc
          go (Some b) at is = value_is v (onto [] es) q b all at ∙ is

  -- where a clause is false, all come behind the trail
  pub behind : (es : List Assigned) (c : List Lit) (h : ℕ) → IsTrail cs n [] es → slice_get cs h ≡ Some c → IsFalse (onto [] es) c → Later n (bit (onto [] es)) v
  behind es c h t at f = elim (position [] es t (λ l h. absurd h)) [
    | inl all ↦ absurd (false_clash v (onto [] es) c all (met_at v cs h c meets at) f)
    | inr later ↦ later
  ]
