-- The chain of the literals that a conflict rests on, from the latest one to the first.
use Rattle.std.proofs.Common.{◌≡◌, ℕ, zero, suc, ◌+◌, ◌<◌, ◌≤◌, Bool, true, false, not, List, [], ◌∷◌, ◌++◌, length, take, reverse, get_or, refl, ap, sym, subst, ◌∙◌, inl, inr, arith}
use Rattle.std.specs.Prelude.{Some, None, MatchOption, slice_get, if◌then◌else◌}
use Rattle.std.specs.declared.option.Option.{Option}
use Rattle.std.specs.Option.{option_map}
use Rattle.std.proofs.lemmas.Bool.{cases_eq}
use Rattle.std.proofs.lemmas.List.{reverse-append}
use Rattle.kn_cnf.specs.declared.clauses.Lit.{Lit}
use Rattle.kn_cnf.specs.Units.{negated, valued, lit_value, Has, IsFalse, IsUnit}
use Rattle.kn_sat.specs.declared.trail.Assigned.{Assigned}
use Rattle.kn_sat.specs.declared.trail.Reason.{Reason}
use Rattle.kn_sat.specs.declared.trail.Reason.TheVariants as reasons
use Rattle.kn_sat.specs.Trails.{latest, IsDecision, IsReason, IsTrail, IsLink, undecided, with_decision, reasons_of, with_reason}
use Rattle.kn_sat.specs.Resting.{marked, AreMarked, IsUnmarked, IsLatest, IsRest, Agrees, Rests, sooner}
use Rattle.kn_sat.proofs.Trails.{valued_own, valued_other, lit_opens, var_opens, onto_more, trail_front}
use Rattle.kn_sat.proofs.Lines.{open_before}

-- a literal has the value that its variable has
lit_same : (ls ms : List Lit) (l : Lit) → valued ls l.var ≡ valued ms l.var → lit_value ls l ≡ lit_value ms l
lit_same ls ms l same = ap (option_map (λ b. if l.neg then not b else b)) same

-- the entry at a place, between those before it and those behind it
split_at : (es : List Assigned) (i : ℕ) (e : Assigned) → slice_get es i ≡ Some e → (back : List Assigned) × (es ≡ take i es ++ e ∷ back) × (take (suc i) es ≡ take i es ++ e ∷ [])
split_at [] i e at = absurd cc
split_at (d ∷ ds) zero e at = let same : d ≡ e = cc in (ds, ap (λ (x : Assigned). x ∷ ds) same, ap (λ (x : Assigned). x ∷ []) same)
split_at (d ∷ ds) (suc i) e at = let rest = split_at ds i e at in (rest.0, ap (λ (es : List Assigned). d ∷ es) rest.1, ap (λ (es : List Assigned). d ∷ es) rest.2)

take_all : (es : List Assigned) → take (length es) es ≡ es
take_all [] = refl
take_all (e ∷ es) = ap (λ (fs : List Assigned). e ∷ fs) (take_all es)

-- the entry at a place that there is
pub read : (es : List Assigned) (i : ℕ) (d : Assigned) → i < length es → slice_get es i ≡ Some (get_or es i d)
read [] i d inside = absurd (omega (arith, inside))
read (e ∷ es) zero d inside = refl
read (e ∷ es) (suc i) d inside = read es i d (omega (arith, inside))

take_none : (es : List Assigned) → take 0 es ≡ []
take_none [] = refl
take_none (e ∷ es) = refl

-- the negation of an earlier decision
earlier : (es : List Assigned) (i p : ℕ) (e : Assigned) → i < p → slice_get es i ≡ Some e → e.reason ≡ reasons.Decision → Has (undecided (take p es)) (negated e.literal)
earlier [] i p e low at is = absurd cc
earlier (d ∷ ds) i zero e low at is = absurd (omega (arith, low))
earlier (d ∷ ds) zero (suc p) e low at is =
    let same : d ≡ e = cc in
    subst (λ (x : Assigned). Has (undecided (x ∷ take p ds)) (negated e.literal)) (sym same) (own e.reason is)
  where
    own : (r : Reason) → r ≡ reasons.Decision → Has (with_decision r e.literal (undecided (take p ds))) (negated e.literal)
    own reasons.Decision now = inl refl
    own (reasons.Clause h) now = absurd cc
earlier (d ∷ ds) (suc i) (suc p) e low at is = behind d.reason (earlier ds i p e (omega (arith, low)) at is)
  where
    behind : (r : Reason) → Has (undecided (take p ds)) (negated e.literal) → Has (with_decision r d.literal (undecided (take p ds))) (negated e.literal)
    behind reasons.Decision h = inr h
    behind (reasons.Clause k) h = h

module _ (cs : List (List Lit)) (n : ℕ) (es : List Assigned) (t : IsTrail cs n [] es) (c : List Lit) (conflict : ℕ) where
  -- why the entry at a place is true, and what is assigned with it
  reason_at : (i : ℕ) (e : Assigned) → slice_get es i ≡ Some e → IsReason cs n (latest (take i es)) e.literal e.reason
  reason_at i e at =
      let s = split_at es i e at in
      ((trail_front cs n [] (take i es) (e ∷ s.0) (subst (IsTrail cs n []) s.1 t)).1).0

  with_it : (i : ℕ) (e : Assigned) → slice_get es i ≡ Some e → latest (take (i + 1) es) ≡ e.literal ∷ latest (take i es)
  with_it i e at =
      let next : i + 1 ≡ suc i = omega arith in
      ap (λ k. latest (take k es)) next ∙ (ap latest (split_at es i e at).2 ∙ onto_more [] (take i es) e)

  -- before the first step the chain is empty
  pub begun : (ms new : List Bool) (us : List Lit) (first hs : List ℕ) → IsFalse (latest es) c → AreMarked ms c new → us ≡ [] → first ≡ [] → hs ≡ first ++ conflict ∷ [] → Rests cs es c conflict (length es) new us hs None
  begun ms new us first hs f are none nothing one = record {
    chain = [];
    clause = ap reverse none;
    hints = ap reverse (one ∙ ap (λ (ks : List ℕ). ks ++ conflict ∷ []) nothing);
    links = λ ls a. (tt, λ m has. lit_same ls (latest es) m (subst (λ (fs : List Assigned). valued ls m.var ≡ valued (latest fs) m.var) (take_all es) (a.same m.var (are.own m has))) ∙ f m has);
    last = refl;
  }

  -- an entry that is not marked is left out
  pub left_out : (i : ℕ) (e : Assigned) (ms : List Bool) (us : List Lit) (hs : List ℕ) (o : Option ℕ) → slice_get es i ≡ Some e → marked ms (e.literal).var ≡ false → Rests cs es c conflict (i + 1) ms us hs o → Rests cs es c conflict i ms us hs o
  left_out i e ms us hs o at out r = record {
    chain = r.chain;
    clause = r.clause;
    hints = r.hints;
    links = λ ls a. r.links ls (subst (λ (fs : List Lit). Agrees ms fs ls) (sym (with_it i e at)) (record {
      same = λ q is. a.same q is ∙ sym (valued_other (latest (take i es)) e.literal q (λ own. apart q own is));
      opens = λ q none. a.opens q (open_before (latest (take i es)) e.literal q none).1;
    }));
    last = lower o r.last;
  }
    where
      apart : (q : ℕ) → (e.literal).var ≡ q → marked ms q ≡ true → ⊥
      apart q own is = let wrong : true ≡ false = sym is ∙ (ap (marked ms) (sym own) ∙ out) in cc

      lower : (o : Option ℕ) → MatchOption o (undecided r.chain ≡ []) (λ p. (i + 1 ≤ p) × IsLatest es (undecided r.chain) p) → MatchOption o (undecided r.chain ≡ []) (λ p. (i ≤ p) × IsLatest es (undecided r.chain) p)
      lower None none = none
      lower (Some p) l = (omega (arith, l.0), l.1)

  -- what agrees before the entry, agrees with it behind it
  agrees_more : (i : ℕ) (e : Assigned) (ms new : List Bool) (ls : List Lit) → slice_get es i ≡ Some e → ((q : ℕ) → ((e.literal).var ≡ q → ⊥) → marked ms q ≡ true → marked new q ≡ true) → Agrees new (latest (take i es)) ls → Agrees ms (latest (take (i + 1) es)) (e.literal ∷ ls)
  agrees_more i e ms new ls at keeps a = subst (λ (fs : List Lit). Agrees ms fs (e.literal ∷ ls)) (sym (with_it i e at)) (record {
    same = λ q is. elim (cases_eq (e.literal).var q) [
      | inl own ↦ subst (λ k. valued (e.literal ∷ ls) k ≡ valued (e.literal ∷ latest (take i es)) k) own (valued_own ls e.literal ∙ sym (valued_own (latest (take i es)) e.literal))
      | inr d ↦ valued_other ls e.literal q d ∙ (a.same q (keeps q d is) ∙ sym (valued_other (latest (take i es)) e.literal q d))
    ];
    opens = λ q none.
        let parts = open_before (latest (take i es)) e.literal q none in
        valued_other ls e.literal q parts.0 ∙ a.opens q parts.1;
  })

  -- a marked decision comes in front
  pub decided : (i : ℕ) (e : Assigned) (ms new : List Bool) (us us' : List Lit) (hs : List ℕ) (o : Option ℕ) → slice_get es i ≡ Some e → e.reason ≡ reasons.Decision → IsUnmarked ms (e.literal).var new → us' ≡ us ++ negated e.literal ∷ [] → Rests cs es c conflict (i + 1) ms us hs o
      → Rests cs es c conflict i new us' hs (sooner i o)
  decided i e ms new us us' hs o at is un pushed r = record {
    chain = e ∷ r.chain;
    clause = ap reverse pushed ∙ (reverse-append us (negated e.literal ∷ []) ∙ (ap (λ (ls : List Lit). negated e.literal ∷ ls) r.clause ∙ sym (ap (λ (x : Reason). with_decision x e.literal (undecided r.chain)) is)));
    hints = r.hints ∙ sym (ap (λ (x : Reason). with_reason x (reasons_of r.chain) ++ conflict ∷ []) is);
    links = λ ls a.
        let d : IsDecision n (latest (take i es)) e.literal = subst (IsReason cs n (latest (take i es)) e.literal) is (reason_at i e at) in
        let rest = r.links (e.literal ∷ ls) (agrees_more i e ms new ls at un a) in
        let link : IsLink cs ls e.literal reasons.Decision = (d.neg, a.opens (e.literal).var d.opens) in
        ((subst (IsLink cs ls e.literal) (sym is) link, rest.0), rest.1);
    last = subst (λ (ls : List Lit). MatchOption (sooner i o) (ls ≡ []) (λ p. (i ≤ p) × IsLatest es ls p)) (sym (ap (λ (x : Reason). with_decision x e.literal (undecided r.chain)) is)) (go o r.last);
  }
    where
      go : (o : Option ℕ) → MatchOption o (undecided r.chain ≡ []) (λ p. (i + 1 ≤ p) × IsLatest es (undecided r.chain) p) → MatchOption (sooner i o) (negated e.literal ∷ undecided r.chain ≡ []) (λ p. (i ≤ p) × IsLatest es (negated e.literal ∷ undecided r.chain) p)
      go None none = (
        omega arith,
        record {
          entry = e;
          at = at;
          decides = is;
          has = inl refl;
          others = λ m has. elim has [
            | inl eq ↦ inl (sym eq)
            | inr g ↦ absurd (subst (λ (ls : List Lit). Has ls m) none g)
          ];
        },
      )
      go (Some p) l = (
        omega (arith, l.0),
        record {
          entry = (l.1).entry;
          at = (l.1).at;
          decides = (l.1).decides;
          has = inr (l.1).has;
          others = λ m has. elim has [
            | inl eq ↦ inr (subst (Has (undecided (take p es))) eq (earlier es i p e (omega (arith, l.0)) at is))
            | inr g ↦ (l.1).others m g
          ];
        },
      )

  -- a marked literal of a unit clause comes in front
  pub followed : (i : ℕ) (e : Assigned) (h : ℕ) (d : List Lit) (ms mid new : List Bool) (us : List Lit) (hs hs' : List ℕ) (o : Option ℕ) → slice_get es i ≡ Some e → e.reason ≡ reasons.Clause h → ((b : List Lit) → slice_get cs h ≡ Some b → d ≡ b) → AreMarked ms d mid → IsUnmarked mid (e.literal).var new → hs' ≡ hs ++ h ∷ [] → Rests cs es c conflict (i + 1) ms us hs o
      → Rests cs es c conflict i new us hs' o
  followed i e h d ms mid new us hs hs' o at is named are un pushed r = record {
    chain = e ∷ r.chain;
    clause = r.clause ∙ sym same;
    hints = ap reverse pushed ∙ (reverse-append hs (h ∷ []) ∙ (ap (λ (ks : List ℕ). h ∷ ks) r.hints ∙ sym (ap (λ (x : Reason). with_reason x (reasons_of r.chain) ++ conflict ∷ []) is)));
    links = λ ls a.
        let rest = r.links (e.literal ∷ ls) (agrees_more i e ms new ls at (λ q other was. un q other (are.kept q was)) a) in
        let link : IsLink cs ls e.literal (reasons.Clause h) = (unit.0, unit.1, linked ls a) in
        ((subst (IsLink cs ls e.literal) (sym is) link, rest.0), rest.1);
    last = subst (λ (ls : List Lit). MatchOption o (ls ≡ []) (λ p. (i ≤ p) × IsLatest es ls p)) (sym same) (lower o r.last);
  }
    where
      same : undecided (e ∷ r.chain) ≡ undecided r.chain
      same = ap (λ (x : Reason). with_decision x e.literal (undecided r.chain)) is

      unit : IsReason cs n (latest (take i es)) e.literal (reasons.Clause h)
      unit = subst (IsReason cs n (latest (take i es)) e.literal) is (reason_at i e at)

      clash : (m : Lit) → (e.literal).var ≡ m.var → lit_value (latest (take i es)) m ≡ Some false → ⊥
      clash m own was =
          let opens : valued (latest (take i es)) m.var ≡ None = ap (valued (latest (take i es))) (sym own) ∙ var_opens (latest (take i es)) e.literal (unit.2).opens in
          let wrong : None ≡ Some false = sym (lit_opens (latest (take i es)) m opens) ∙ was in
          cc

      linked : (ls : List Lit) → Agrees new (latest (take i es)) ls → IsUnit ls unit.0 e.literal
      linked ls a = record {
        has = (unit.2).has;
        opens = lit_opens ls e.literal (a.opens (e.literal).var (var_opens (latest (take i es)) e.literal (unit.2).opens));
        others = λ m has other.
            let was = (unit.2).others m has other in
            lit_same ls (latest (take i es)) m (a.same m.var (un m.var (λ own. clash m own was) (are.own m (subst (λ (b : List Lit). Has b m) (sym (named unit.0 unit.1)) has)))) ∙ was;
      }

      lower : (o : Option ℕ) → MatchOption o (undecided r.chain ≡ []) (λ p. (i + 1 ≤ p) × IsLatest es (undecided r.chain) p) → MatchOption o (undecided r.chain ≡ []) (λ p. (i ≤ p) × IsLatest es (undecided r.chain) p)
      lower None none = none
      lower (Some p) l = (omega (arith, l.0), l.1)

  -- at the first entry the chain stands by itself
  pub rest : (ms : List Bool) (us rs : List Lit) (hs ks : List ℕ) (o : Option ℕ) → slice_get cs conflict ≡ Some c → Rests cs es c conflict 0 ms us hs o → rs ≡ reverse us → ks ≡ reverse hs → IsRest cs es conflict (record { clause = rs; hints = ks }) o
  rest ms us rs hs ks o at r turned back =
      let whole = r.links [] (subst (λ (fs : List Assigned). Agrees ms (latest fs) []) (sym (take_none es)) (record { same = λ q own. refl; opens = λ q none. none })) in
      record {
        chain = r.chain;
        links = whole.0;
        ends = (c, at, whole.1);
        is = ap (λ (ls : List Lit). record { clause = ls; hints = ks }) (turned ∙ r.clause) ∙ ap (λ (hints : List ℕ). record { clause = undecided r.chain; hints = hints }) (back ∙ r.hints);
        last = go o r.last;
      }
    where
      go : (o : Option ℕ) → MatchOption o (undecided r.chain ≡ []) (λ p. (0 ≤ p) × IsLatest es (undecided r.chain) p) → MatchOption o (undecided r.chain ≡ []) (IsLatest es (undecided r.chain))
      go None none = none
      go (Some p) l = l.1
