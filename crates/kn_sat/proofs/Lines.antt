-- The line of a conflict is good: the decisions first, and then the literals that follow, in order.
use Rattle.std.proofs.Common.{◌≡◌, ◌≢◌, ℕ, Bool, false, not, List, [], ◌∷◌, ◌++◌, refl, ap, sym, subst, ◌∙◌, inl, inr}
use Rattle.std.specs.Prelude.{Some, None, slice_get}
use Rattle.std.specs.declared.option.Option.{Option}
use Rattle.std.proofs.lemmas.Bool.{cases_eq}
use Rattle.kn_cnf.specs.declared.clauses.Lit.{Lit}
use Rattle.kn_cnf.specs.Units.{negated, valued, Has, IsFalse, IsUnit}
use Rattle.kn_cnf.specs.Good.{falsified, Refutes, IsGood}
use Rattle.kn_cnf.proofs.Literals.{twice}
use Rattle.kn_sat.specs.declared.trail.Assigned.{Assigned}
use Rattle.kn_sat.specs.declared.trail.Reason.{Reason}
use Rattle.kn_sat.specs.declared.trail.Reason.TheVariants as reasons
use Rattle.kn_sat.specs.Trails.{onto, IsLink, IsChain, undecided, with_decision, reasons_of, with_reason}
use Rattle.kn_sat.proofs.Trails.{valued_own, valued_other, valued_clash, valued_kept, lit_opens, lit_kept, link_opens}

-- the decisions
abbrev with_own : Reason → Lit → List Lit → List Lit
with_own reasons.Decision l rest = l ∷ rest
with_own (reasons.Clause h) l rest = rest

abbrev decisions : List Assigned → List Lit
decisions [] = []
decisions (e ∷ es) = with_own e.reason e.literal (decisions es)

-- the first value that there is
abbrev either : Option Bool → Option Bool → Option Bool
either (Some b) o = Some b
either None o = o

either_none : (o : Option Bool) → o ≡ either o None
either_none None = refl
either_none (Some b) = refl

-- a literal moves from the one side to the other
moved : (ms ds : List Lit) (l : Lit) (q : ℕ) → valued ms l.var ≡ None → either (valued (l ∷ ms) q) (valued ds q) ≡ either (valued ms q) (valued (l ∷ ds) q)
moved ms ds l q opens = elim (cases_eq l.var q) [
  | inl e ↦ subst (λ k. either (valued (l ∷ ms) k) (valued ds k) ≡ either (valued ms k) (valued (l ∷ ds) k)) e
      (ap (λ o. either o (valued ds l.var)) (valued_own ms l) ∙ sym (ap (λ o. either o (valued (l ∷ ds) l.var)) opens ∙ valued_own ds l))
  | inr d ↦ ap (λ o. either o (valued ds q)) (valued_other ms l q d) ∙ sym (ap (λ o. either (valued ms q) o) (valued_other ds l q d))
]

-- what is open with one literal more was open
pub open_before : (ls : List Lit) (l : Lit) (q : ℕ) → valued (l ∷ ls) q ≡ None → (l.var ≢ q) × (valued ls q ≡ None)
open_before ls l q e = elim (cases_eq l.var q) [
  | inl same ↦ absurd (valued_clash (l ∷ ls) q (not l.neg) e (ap (valued (l ∷ ls)) (sym same) ∙ valued_own ls l))
  | inr d ↦ (d, sym (valued_other ls l q d) ∙ e)
]

module _ (cs : List (List Lit)) where
  -- the negations assigned false are the decisions
  falsified_is : (ls : List Lit) (es : List Assigned) (ms : List Lit) → IsChain cs ls es → ((q : ℕ) → valued ls q ≡ None → valued ms q ≡ None) → (q : ℕ) → valued (falsified ms (undecided es)) q ≡ either (valued ms q) (valued (decisions es) q)
  falsified_is ls [] ms t low q = either_none (valued ms q)
  falsified_is ls (e ∷ es) ms t low q =
      go e.reason t.0
      (λ twice_more. falsified_is (e.literal ∷ ls) es (negated (negated e.literal) ∷ ms) t.1
      (λ p none. let parts = open_before ls e.literal p none in valued_other ms (negated (negated e.literal)) p parts.0 ∙ low p parts.1) q)
      (falsified_is (e.literal ∷ ls) es ms t.1 (λ p none. low p (open_before ls e.literal p none).1) q)
    where
      go : (r : Reason) → IsLink cs ls e.literal r
          → ((k : ℕ) → valued (falsified (negated (negated e.literal) ∷ ms) (undecided es)) q ≡ either (valued (negated (negated e.literal) ∷ ms) q) (valued (decisions es) q))
          → valued (falsified ms (undecided es)) q ≡ either (valued ms q) (valued (decisions es) q)
          → valued (falsified ms (with_decision r e.literal (undecided es))) q ≡ either (valued ms q) (valued (with_own r e.literal (decisions es)) q)
      go reasons.Decision d more same =
          more 0 ∙ (ap (λ (l : Lit). either (valued (l ∷ ms) q) (valued (decisions es) q)) (twice e.literal) ∙ moved ms (decisions es) e.literal q (low (e.literal).var d.1))
      go (reasons.Clause h) u more same = same

  -- what is assigned is no later decision
  later_open : (ls : List Lit) (es : List Assigned) (q : ℕ) (b : Bool) → IsChain cs ls es → valued ls q ≡ Some b → valued (decisions es) q ≡ None
  later_open ls [] q b t is = refl
  later_open ls (e ∷ es) q b t is =
      go e.reason t.0 (later_open (e.literal ∷ ls) es q b t.1 (valued_kept ls e.literal q b (link_opens cs ls e.literal e.reason t.0) is))
    where
      go : (r : Reason) → IsLink cs ls e.literal r → valued (decisions es) q ≡ None → valued (with_own r e.literal (decisions es)) q ≡ None
      go reasons.Decision d rest = elim (cases_eq (e.literal).var q) [
        | inl same ↦ absurd (valued_clash ls q b (ap (valued ls) (sym same) ∙ d.1) is)
        | inr other ↦ valued_other (decisions es) e.literal q other ∙ rest
      ]
      go (reasons.Clause h) u rest = rest

  step : (ms : List Lit) (k : ℕ) (hs : List ℕ) (h : ℕ) (c : List Lit) (l : Lit) → slice_get cs k ≡ Some c → IsUnit ms c l → Refutes cs (l ∷ ms) (hs ++ h ∷ []) → Refutes cs ms (k ∷ (hs ++ h ∷ []))
  step ms k [] h c l at u r = (c, l, at, u, r)
  step ms k (x ∷ xs) h c l at u r = (c, l, at, u, r)

  -- where the decisions come first, the same clauses are unit, in the same order, and the last one is false
  refutes : (ls : List Lit) (es : List Assigned) (ms : List Lit) (h : ℕ) (c : List Lit) → IsChain cs ls es → ((q : ℕ) → valued ms q ≡ either (valued ls q) (valued (decisions es) q))
      → slice_get cs h ≡ Some c → IsFalse (onto ls es) c → Refutes cs ms (reasons_of es ++ h ∷ [])
  refutes ls [] ms h c t same at f = (c, at, λ m has. lit_kept ls ms m false (λ b is. same m.var ∙ ap (λ o. either o None) is) (f m has))
  refutes ls (e ∷ es) ms h c t same at f =
      go e.reason t.0 same
      (λ now. refutes (e.literal ∷ ls) es ms h c t.1 now at f)
      (λ now. refutes (e.literal ∷ ls) es (e.literal ∷ ms) h c t.1 now at f)
    where
      both : ((p : ℕ) → valued ms p ≡ either (valued ls p) (valued (decisions es) p)) → (q : ℕ) → valued (e.literal ∷ ms) q ≡ either (valued (e.literal ∷ ls) q) (valued (decisions es) q)
      both was q = elim (cases_eq (e.literal).var q) [
        | inl is ↦ subst (λ k. valued (e.literal ∷ ms) k ≡ either (valued (e.literal ∷ ls) k) (valued (decisions es) k)) is (valued_own ms e.literal ∙ sym (ap (λ o. either o (valued (decisions es) (e.literal).var)) (valued_own ls e.literal)))
        | inr d ↦ valued_other ms e.literal q d ∙ (was q ∙ sym (ap (λ o. either o (valued (decisions es) q)) (valued_other ls e.literal q d)))
      ]

      go : (r : Reason) → IsLink cs ls e.literal r → ((q : ℕ) → valued ms q ≡ either (valued ls q) (valued (with_own r e.literal (decisions es)) q))
          → (((q : ℕ) → valued ms q ≡ either (valued (e.literal ∷ ls) q) (valued (decisions es) q)) → Refutes cs ms (reasons_of es ++ h ∷ []))
          → (((q : ℕ) → valued (e.literal ∷ ms) q ≡ either (valued (e.literal ∷ ls) q) (valued (decisions es) q)) → Refutes cs (e.literal ∷ ms) (reasons_of es ++ h ∷ []))
          → Refutes cs ms (with_reason r (reasons_of es) ++ h ∷ [])
      go reasons.Decision d was here more = here (λ q. was q ∙ sym (moved ls (decisions es) e.literal q d.1))
      go (reasons.Clause k) u was here more =
          let opens : valued ls (e.literal).var ≡ None = link_opens cs ls e.literal (reasons.Clause k) u in
          let later : valued (decisions es) (e.literal).var ≡ None = later_open (e.literal ∷ ls) es (e.literal).var (not (e.literal).neg) t.1 (valued_own ls e.literal) in
          let own : valued ms (e.literal).var ≡ None = was (e.literal).var ∙ (ap (λ o. either o (valued (decisions es) (e.literal).var)) opens ∙ later) in
          step ms k (reasons_of es) h u.0 e.literal u.1
          (record {
            has = (u.2).has;
            opens = lit_opens ms e.literal own;
            others = λ m has d. lit_kept ls ms m false (λ b is. was m.var ∙ ap (λ o. either o (valued (decisions es) m.var)) is) ((u.2).others m has d);
          })
          (more (both was))

  -- the negations are no negated literals
  undecided_plain : (ls : List Lit) (es : List Assigned) (m : Lit) → IsChain cs ls es → Has (undecided es) m → m.neg ≡ false
  undecided_plain ls [] m t has = absurd has
  undecided_plain ls (e ∷ es) m t has = go e.reason t.0 has (λ h. undecided_plain (e.literal ∷ ls) es m t.1 h)
    where
      go : (r : Reason) → IsLink cs ls e.literal r → Has (with_decision r e.literal (undecided es)) m → (Has (undecided es) m → m.neg ≡ false) → m.neg ≡ false
      go reasons.Decision d h rest = elim h [ inl is ↦ ap (λ (l : Lit). l.neg) (sym is) ∙ ap not d.0 | inr g ↦ rest g ]
      go (reasons.Clause k) u h rest = rest h

  pub good_line : (es : List Assigned) (h : ℕ) (c : List Lit) → IsChain cs [] es → slice_get cs h ≡ Some c → IsFalse (onto [] es) c → IsGood cs (record { clause = undecided es; hints = reasons_of es ++ h ∷ [] })
  good_line es h c t at f = record {
    apart = λ both.
        let first = undecided_plain [] es both.0 t both.1 in
        let second = undecided_plain [] es (negated both.0) t both.2 in
        let wrong : not false ≡ false = ap not (sym first) ∙ second in
        cc;
    refuted = refutes [] es (falsified [] (undecided es)) h c t (falsified_is [] es [] t (λ q none. none)) at f;
  }
