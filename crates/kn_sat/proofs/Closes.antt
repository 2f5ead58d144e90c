-- A conflict's line closes the assignments that begin with the decisions.
use Rattle.std.proofs.Common.{◌≡◌, ℕ, zero, suc, ◌+◌, ◌<◌, ◌≤◌, Bool, arith, take, List, [], ◌∷◌, ◌++◌, length, map, append-nil, append_assoc, refl, ap, sym, subst, ◌∙◌, length-append}
use Rattle.std.specs.Prelude.{Some, None, ◌⊎◌, MatchOption, slice_get}
use Rattle.std.specs.declared.option.Option.{Option}
use Rattle.std.proofs.lemmas.List.{map-append, length-map}
use Rattle.kn_cnf.specs.declared.clauses.Lit.{Lit}
use Rattle.kn_cnf.specs.Formulas.{Step}
use Rattle.kn_cnf.specs.Units.{negated, Has}
use Rattle.kn_cnf.specs.Truth.{Meets}
use Rattle.kn_cnf.specs.Good.{IsGood, AreGood, Checks}
use Rattle.kn_cnf.proofs.Sound.{good_follows, meets_more}
use Rattle.kn_sat.specs.declared.trail.Assigned.{Assigned}
use Rattle.kn_sat.specs.declared.trail.Reason.{Reason}
use Rattle.kn_sat.specs.declared.trail.Reason.TheVariants as reasons
use Rattle.kn_sat.specs.Trails.{latest, bit, IsTrail, IsTurned, IsFlipped, undecided, reasons_of}
use Rattle.kn_sat.specs.Propagating.{Stands}
use Rattle.kn_sat.specs.Resting.{IsLatest, IsRest}
use Rattle.kn_sat.specs.Order.{IsClosed}
use Rattle.kn_sat.proofs.Numbers.{later_lt}
use Rattle.kn_sat.proofs.Lines.{good_line}
use Rattle.kn_sat.proofs.Flips.{flipped_trail, flipped_later, flipped_before}

-- the clauses of lines
abbrev pub lines_of : List Step → List (List Lit)
lines_of lines = map (λ s. s.clause) lines

-- lines with one more
pub good_more : (cs : List (List Lit)) (lines : List Step) (s : Step) → AreGood cs lines → IsGood (cs ++ lines_of lines) s → AreGood cs (lines ++ s ∷ [])
good_more cs [] s good one = (subst (λ (ds : List (List Lit)). IsGood ds s) (append-nil cs) one, tt)
good_more cs (l ∷ ls) s good one = (good.0, good_more (cs ++ l.clause ∷ []) ls s good.1 (subst (λ (ds : List (List Lit)). IsGood ds s) (sym (append_assoc cs (l.clause ∷ []) (lines_of ls))) one))

-- values that meet the clauses meet the lines
pub lines_met : (v : ℕ → Bool) (cs : List (List Lit)) (lines : List Step) → AreGood cs lines → Meets v cs → Meets v (cs ++ lines_of lines)
lines_met v cs [] good meets = subst (Meets v) (sym (append-nil cs)) meets
lines_met v cs (l ∷ ls) good meets = subst (Meets v) (append_assoc cs (l.clause ∷ []) (lines_of ls)) (lines_met v (cs ++ l.clause ∷ []) ls good.1 (meets_more v cs l.clause meets (good_follows v cs l good.0 meets)))

last_clause : (cs : List (List Lit)) (c : List Lit) → slice_get (cs ++ c ∷ []) (length cs) ≡ Some c
last_clause [] c = refl
last_clause (d ∷ ds) c = last_clause ds c

-- what stands in the middle
pub at_middle : (front back : List Assigned) (e d : Assigned) → slice_get (front ++ e ∷ back) (length front) ≡ Some d → e ≡ d
at_middle [] back e d at = cc
at_middle (f ∷ fs) back e d at = at_middle fs back e d at

pub take_front : (front back : List Assigned) → take (length front) (front ++ back) ≡ front
take_front [] back = refl
take_front (f ∷ fs) back = ap (λ (es : List Assigned). f ∷ es) (take_front fs back)

within : (es : List Assigned) (p : ℕ) (e : Assigned) → slice_get es p ≡ Some e → p < length es
within [] p e at = absurd cc
within (d ∷ ds) zero e at = omega arith
within (d ∷ ds) (suc p) e at = omega (arith, within ds p e at)

decided : (e : Assigned) → e.reason ≡ reasons.Decision → e ≡ record { literal = e.literal; reason = reasons.Decision }
decided e is = ap (λ (r : Reason). record { literal = e.literal; reason = r }) is

-- the latest decision was turned
turned : (old new : List Assigned) (us : List Lit) (p h q : ℕ) → IsLatest old us p → IsTurned old new p h q → IsFlipped old new us h q
turned old new us p h q l t =
    let there : slice_get (t.front ++ t.entry ∷ t.back) (length t.front) ≡ Some l.entry = subst (λ k. slice_get (t.front ++ t.entry ∷ t.back) k ≡ Some l.entry) (sym t.long) (subst (λ (es : List Assigned). slice_get es p ≡ Some l.entry) t.was l.at) in
    let same : t.entry ≡ l.entry = at_middle t.front t.back t.entry l.entry there in
    let literals : l.entry.literal ≡ t.entry.literal = ap (λ (e : Assigned). e.literal) (sym same) in
    let decides : t.entry.reason ≡ reasons.Decision = ap (λ (e : Assigned). e.reason) same ∙ l.decides in
    let before : take p old ≡ t.front = ap (take p) t.was ∙ (ap (λ k. take k (t.front ++ t.entry ∷ t.back)) (sym t.long) ∙ take_front t.front (t.entry ∷ t.back)) in
    record {
      front = t.front;
      literal = t.entry.literal;
      back = t.back;
      was = t.was ∙ ap (λ (e : Assigned). t.front ++ e ∷ t.back) (decided t.entry decides);
      is = t.is;
      has = subst (λ (l : Lit). Has us (negated l)) literals l.has;
      others = λ m has. subst (λ (es : List Assigned). (m ≡ negated t.entry.literal) ⊎ Has (undecided es) m) before (subst (λ (k : Lit). (m ≡ negated k) ⊎ Has (undecided (take p old)) m) literals (l.others m has));
      own = t.own;
    }

module _ (n : ℕ) (cs : List (List Lit)) (lines lines' : List Step) (s : Step) (es es' : List Assigned) (conflict number : ℕ) (last : Option ℕ)
    (stands : Stands n cs lines es) (rest : IsRest (cs ++ lines_of lines) es conflict s last)
    (more : lines' ≡ lines ++ s ∷ []) (place : number ≡ length cs + length lines) where
  good : AreGood cs lines'
  good = subst (AreGood cs) (sym more) (good_more cs lines s stands.good (subst (IsGood (cs ++ lines_of lines)) (sym rest.is) (good_line (cs ++ lines_of lines) rest.chain conflict (rest.ends).0 rest.links (rest.ends).1 (rest.ends).2)))

  -- where the line rests on a decision, that one was turned
  closed : (q : ℕ) → IsFlipped es es' (undecided rest.chain) number q → IsClosed n cs lines' es es' q
  closed q f =
      let us : List Lit = undecided rest.chain in
      let before : List (List Lit) = cs ++ lines_of lines in
      let count : length before ≡ number = length-append cs (lines_of lines) ∙ (ap (λ k. length cs + k) (length-map lines (λ (t : Step). t.clause)) ∙ sym place) in
      let found : slice_get (before ++ us ∷ []) number ≡ Some us = subst (λ k. slice_get (before ++ us ∷ []) k ≡ Some us) count (last_clause before us) in
      let trail : IsTrail (before ++ us ∷ []) n [] es' = flipped_trail before n es es' us number q (us ∷ []) stands.trail f found in
      let whole : before ++ us ∷ [] ≡ cs ++ lines_of lines' =
      append_assoc cs (lines_of lines) (us ∷ []) ∙ ap (λ (ds : List (List Lit)). cs ++ ds) (sym (ap lines_of (more ∙ ap (λ (t : Step). lines ++ t ∷ []) rest.is) ∙ map-append (λ (t : Step). t.clause) lines (record { clause = us; hints = reasons_of rest.chain ++ conflict ∷ [] } ∷ []))) in
      record {
        stands = record { good = good; trail = subst (λ (ds : List (List Lit)). IsTrail ds n [] es') whole trail };
        later = later_lt n (bit (latest es)) (bit (latest es')) (flipped_later before n es es' us number q stands.trail f);
        before = flipped_before before n es es' us number q stands.trail f;
      }

  -- where it rests on none, the log checks
  pub all_closed : last ≡ None → Checks cs lines'
  all_closed none =
      let empty : undecided rest.chain ≡ [] = subst (λ (o : Option ℕ). MatchOption o (undecided rest.chain ≡ []) (IsLatest es (undecided rest.chain))) none rest.last in
      record {
        good = good;
        ends = (lines, reasons_of rest.chain ++ conflict ∷ [], more ∙ ap (λ (t : Step). lines ++ t ∷ []) (rest.is ∙ ap (λ (c : List Lit). record { clause = c; hints = reasons_of rest.chain ++ conflict ∷ [] }) empty));
      }

  pub close : (p : ℕ) → last ≡ Some p → (o : Option ℕ) → MatchOption o (length es ≤ p) (IsTurned es es' p number) → MatchOption o (Checks cs lines') (IsClosed n cs lines' es es')
  close p some o m = go o m
    where
      latest_one : IsLatest es (undecided rest.chain) p
      latest_one = subst (λ (o : Option ℕ). MatchOption o (undecided rest.chain ≡ []) (IsLatest es (undecided rest.chain))) some rest.last

      go : (o : Option ℕ) → MatchOption o (length es ≤ p) (IsTurned es es' p number) → MatchOption o (Checks cs lines') (IsClosed n cs lines' es es')
      go None short =
          let few : length es ≤ p = short in
          absurd (omega (arith, few, within es p latest_one.entry latest_one.at))
      go (Some q) t = closed q (turned es es' (undecided rest.chain) p number q latest_one t)
