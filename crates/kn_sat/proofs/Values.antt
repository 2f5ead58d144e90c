-- The values of the variables along a trail.
use Rattle.std.proofs.Common.{◌≡◌, ℕ, ◌<◌, Bool, not, List, [], ◌∷◌, ◌++◌, length, set, get_or, ap, sym, subst, ◌∙◌, inl, inr}
use Rattle.std.specs.Prelude.{Some, None}
use Rattle.std.specs.declared.option.Option.{Option}
use Rattle.std.proofs.lemmas.Bool.{cases_eq}
use Rattle.std.proofs.lemmas.List.{get_or-set_same, get_or-set_other, length-set}
use Rattle.kn_cnf.specs.declared.clauses.Lit.{Lit}
use Rattle.kn_cnf.specs.Units.{valued}
use Rattle.kn_sat.specs.declared.trail.Assigned.{Assigned}
use Rattle.kn_sat.specs.Trails.{latest, AreOpened, AreValues}
use Rattle.kn_sat.proofs.Trails.{valued_own, valued_other, onto_more, opened_more, opened_front}

module _ (vs : List (Option Bool)) (es es' : List Assigned) (e : Assigned) (is : es' ≡ es ++ e ∷ []) where
  literals : latest es' ≡ e.literal ∷ latest es
  literals = ap latest is ∙ onto_more [] es e

  -- with one literal more
  pub values_more : AreValues vs es → (e.literal).var < length vs → valued (latest es) (e.literal).var ≡ None → AreValues (set vs (e.literal).var (Some (not (e.literal).neg))) es'
  values_more were below opens = record {
    opened = subst (λ (n : ℕ). AreOpened n [] es') (sym (length-set vs (e.literal).var (Some (not (e.literal).neg)))) (subst (AreOpened (length vs) []) (sym is) (opened_more (length vs) [] es e were.opened below opens));
    values = λ p. elim (cases_eq (e.literal).var p) [
      | inl same ↦ subst (λ (k : ℕ). get_or (set vs (e.literal).var (Some (not (e.literal).neg))) k None ≡ valued (latest es') k) same
          (get_or-set_same vs (e.literal).var (Some (not (e.literal).neg)) None below ∙ sym (ap (λ (ls : List Lit). valued ls (e.literal).var) literals ∙ valued_own (latest es) e.literal))
      | inr other ↦ get_or-set_other vs (e.literal).var p (Some (not (e.literal).neg)) None (λ s. other (sym s)) ∙ (were.values p ∙ sym (ap (λ (ls : List Lit). valued ls p) literals ∙ valued_other (latest es) e.literal p other))
    ];
  }

  -- with the latest literal taken back
  pub last_opened : AreValues vs es' → AreOpened (length vs) [] es × ((e.literal).var < length vs) × (valued (latest es) (e.literal).var ≡ None)
  last_opened were = opened_front (length vs) [] es e (subst (AreOpened (length vs) []) is were.opened)

  pub values_less : AreValues vs es' → AreValues (set vs (e.literal).var None) es
  values_less were = let parts = last_opened were in record {
    opened = subst (λ (n : ℕ). AreOpened n [] es) (sym (length-set vs (e.literal).var None)) parts.0;
    values = λ p. elim (cases_eq (e.literal).var p) [
      | inl same ↦ subst (λ (k : ℕ). get_or (set vs (e.literal).var None) k None ≡ valued (latest es) k) same (get_or-set_same vs (e.literal).var None None parts.1 ∙ sym parts.2)
      | inr other ↦ get_or-set_other vs (e.literal).var p None None (λ s. other (sym s)) ∙ (were.values p ∙ (ap (λ (ls : List Lit). valued ls p) literals ∙ valued_other (latest es) e.literal p other))
    ];
  }
