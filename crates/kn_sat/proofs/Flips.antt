-- After a conflict a decision is turned.
use Rattle.std.proofs.Common.{◌≡◌, ◌≢◌, ℕ, ◌<◌, Bool, true, false, not, List, [], ◌∷◌, ◌++◌, refl, ap, sym, subst, ◌∙◌, inl, inr, arith}
use Rattle.std.specs.Prelude.{Some, None, ◌⊎◌, slice_get, if◌then◌else◌, unwrap_or}
use Rattle.std.specs.Option.{option_map}
use Rattle.kn_cnf.specs.declared.clauses.Lit.{Lit}
use Rattle.kn_cnf.specs.Units.{negated, valued, lit_value, Has, IsUnit}
use Rattle.kn_sat.specs.declared.trail.Assigned.{Assigned}
use Rattle.kn_sat.specs.declared.trail.Reason.{Reason}
use Rattle.kn_sat.specs.declared.trail.Reason.TheVariants as reasons
use Rattle.kn_sat.specs.Trails.{onto, latest, bit, IsDecision, IsTrail, IsFlipped, undecided, with_decision}
use Rattle.kn_sat.specs.Propagating.{AreAssigned}
use Rattle.kn_sat.proofs.Numbers.{Later}
use Rattle.kn_sat.proofs.Trails.{valued_own, valued_other, lit_opens, onto_kept, onto_more, onto_append, trail_front, trail_more, trail_kept}

-- the negation of a literal that is assigned true is false
negated_false : (ls : List Lit) (l : Lit) → valued ls l.var ≡ Some (not l.neg) → lit_value ls (negated l) ≡ Some false
negated_false ls l is = ap (option_map (λ b. if not l.neg then not b else b)) is ∙ go l.neg
  where
    go : (n : Bool) → Some (if not n then not (not n) else not n) ≡ Some false
    go true = refl
    go false = refl

module _ (cs : List (List Lit)) (n : ℕ) where
  -- each negation of a decision is false
  undecided_false : (ls : List Lit) (es : List Assigned) (m : Lit) → IsTrail cs n ls es → Has (undecided es) m → lit_value (onto ls es) m ≡ Some false
  undecided_false ls [] m t has = absurd has
  undecided_false ls (e ∷ es) m t has = go e.reason has (λ h. undecided_false (e.literal ∷ ls) es m t.1 h)
    where
      go : (r : Reason) → Has (with_decision r e.literal (undecided es)) m → (Has (undecided es) m → lit_value (onto (e.literal ∷ ls) es) m ≡ Some false) → lit_value (onto (e.literal ∷ ls) es) m ≡ Some false
      go reasons.Decision h rest = elim h [
        | inl is ↦ subst (λ (k : Lit). lit_value (onto (e.literal ∷ ls) es) k ≡ Some false) is
            (negated_false (onto (e.literal ∷ ls) es) e.literal (onto_kept cs n (e.literal ∷ ls) es (e.literal).var (not (e.literal).neg) t.1 (valued_own ls e.literal)))
        | inr g ↦ rest g
      ]
      go (reasons.Clause k) h rest = rest h

  -- the line is unit where the decision is open again
  flip_unit : (front : List Assigned) (l : Lit) (line : List Lit) → IsTrail cs n [] front → valued (latest front) l.var ≡ None → Has line (negated l) → ((m : Lit) → Has line m → (m ≡ negated l) ⊎ Has (undecided front) m) → IsUnit (latest front) line (negated l)
  flip_unit front l line t opens has others = record {
    has = has;
    opens = lit_opens (latest front) (negated l) opens;
    others = λ m is d. elim (others m is) [
      | inl e ↦ absurd (d e)
      | inr g ↦ undecided_false [] front m t g
    ];
  }

  -- the trail before the decision, and the decision
  parts : (old new : List Assigned) (line : List Lit) (h q : ℕ) → IsTrail cs n [] old → (f : IsFlipped old new line h q) → IsTrail cs n [] f.front × IsDecision n (latest f.front) f.literal × IsTrail cs n (f.literal ∷ latest f.front) f.back
  parts old new line h q t f =
      let split = trail_front cs n [] f.front (record { literal = f.literal; reason = reasons.Decision } ∷ f.back) (subst (IsTrail cs n []) f.was t) in
      (split.0, (split.1).0, (split.1).1)

  -- the trail stands by the clauses with the line's
  pub flipped_trail : (old new : List Assigned) (line : List Lit) (h q : ℕ) (ds : List (List Lit)) → IsTrail cs n [] old → IsFlipped old new line h q → slice_get (cs ++ ds) h ≡ Some line → IsTrail (cs ++ ds) n [] new
  flipped_trail old new line h q ds t f at =
      let p = parts old new line h q t f in
      subst (IsTrail (cs ++ ds) n []) (sym f.is)
      (trail_more (cs ++ ds) n [] f.front (record { literal = negated f.literal; reason = reasons.Clause h }) (trail_kept cs ds n [] f.front p.0)
      (line, at, flip_unit f.front f.literal line p.0 (p.1).opens f.has f.others))

  -- where the literals stand, before and after
  literals_before : (old new : List Assigned) (line : List Lit) (h q : ℕ) → (f : IsFlipped old new line h q) → latest old ≡ onto (f.literal ∷ latest f.front) f.back
  literals_before old new line h q f = ap latest f.was ∙ onto_append [] f.front (record { literal = f.literal; reason = reasons.Decision } ∷ f.back)

  literals_after : (old new : List Assigned) (line : List Lit) (h q : ℕ) → (f : IsFlipped old new line h q) → latest new ≡ negated f.literal ∷ latest f.front
  literals_after old new line h q f = ap latest f.is ∙ onto_more [] f.front (record { literal = negated f.literal; reason = reasons.Clause h })

  after_kept : (old new : List Assigned) (line : List Lit) (h q i : ℕ) (b : Bool) → (f : IsFlipped old new line h q) → i < (f.literal).var → valued (latest f.front) i ≡ Some b → valued (latest new) i ≡ Some b
  after_kept old new line h q i b f low is =
      let other : (f.literal).var ≢ i = omega (arith, low) in
      ap (λ (ls : List Lit). valued ls i) (literals_after old new line h q f) ∙ (valued_other (latest f.front) (negated f.literal) i other ∙ is)

  -- the inputs before the turned one are assigned
  pub flipped_before : (old new : List Assigned) (line : List Lit) (h q : ℕ) → IsTrail cs n [] old → IsFlipped old new line h q → AreAssigned q (latest new)
  flipped_before old new line h q t f i low =
      let p = parts old new line h q t f in
      let inside : i < (f.literal).var = omega (arith, low, f.own) in
      let at = (p.1).before i inside in
      (at.0, after_kept old new line h q i at.0 f inside at.1)

  -- it stands behind the earlier one in the order
  pub flipped_later : (old new : List Assigned) (line : List Lit) (h q : ℕ) → IsTrail cs n [] old → IsFlipped old new line h q → Later n (bit (latest old)) (bit (latest new))
  flipped_later old new line h q t f =
      let p = parts old new line h q t f in
      let before = literals_before old new line h q f in
      let after = literals_after old new line h q f in
      record {
        place = (f.literal).var;
        inside = (p.1).input;
        same = λ i low.
            let at = (p.1).before i low in
            let other : (f.literal).var ≢ i = λ e. own e low in
            let one = ap (λ (ls : List Lit). valued ls i) before ∙ onto_kept cs n (f.literal ∷ latest f.front) f.back i at.0 p.2 (valued_other (latest f.front) f.literal i other ∙ at.1) in
            ap (λ o. unwrap_or o false) (one ∙ sym (after_kept old new line h q i at.0 f low at.1));
        low = ap (λ o. unwrap_or o false) (ap (λ (ls : List Lit). valued ls (f.literal).var) before ∙ onto_kept cs n (f.literal ∷ latest f.front) f.back (f.literal).var (not (f.literal).neg) p.2 (valued_own (latest f.front) f.literal)) ∙ ap not (p.1).neg;
        high = ap (λ o. unwrap_or o false) (ap (λ (ls : List Lit). valued ls (f.literal).var) after ∙ valued_own (latest f.front) (negated f.literal)) ∙ ap (λ b. not (not b)) (p.1).neg;
      }
    where
      own : {i : ℕ} {j : ℕ} → i ≡ j → j < i → ⊥
      own e low = omega arith
