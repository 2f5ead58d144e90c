-- A way that goes on under one more literal.
use Rattle.std.proofs.Common.{◌≡◌, ℕ, zero, suc, ◌<◌, ◌≤◌, Bool, true, false, List, [], ◌∷◌, ◌++◌, length, get_or, refl, sym, ap, subst, ◌∙◌, append_assoc, arith}
use Rattle.std.specs.Prelude.{◌&&◌, not, nat_eq, Contains, slice_get, Option, Some, None, MatchOption}
use Rattle.std.proofs.lemmas.List.{take-append-le, length-append}
use Rattle.std.proofs.lemmas.List.Elements.{Contains-append_left}
use Rattle.kn_term.specs.declared.node.Node.{Node}
use Rattle.kn_term.specs.declared.node.Ref.{Ref}
use Rattle.kn_term.specs.declared.node.Literal.{Literal as Listed}
use Rattle.kn_term.specs.Terms.{Term, Word, Valuation, ev}
use Rattle.kn_built.proofs.Deciding.{both_true}
use Rattle.kn_cond.specs.Literals.{Literal, negated, same_bit, word_holds}
use Rattle.kn_cond.specs.Conditions.{Condition, Read, holds, literal_holds, reads_of, that, IsImpossible, StandsFor}
use Rattle.kn_cond.specs.Meanings.{literal_of, condition_of, StandIn}
use Rattle.kn_cond.specs.declared.standing.Standing.{Standing}
use Rattle.kn_cond.proofs.Kept.{StandIn-append, condition_of-append}
use Rattle.kn_solve.specs.Verdicts.{IsJudged}
use Rattle.kn_solve.specs.declared.judge.Judged.{Judged}
use Rattle.kn_model.specs.Alikes.{ConditionAlike}
use Rattle.kn_model.proofs.AlikeTerms.{holds_join, joins, condition_self, condition_through}
use Rattle.kn_model.proofs.JoinedQuery.{reads_append}
use Rattle.kn_machine.specs.Ways.{IsWay, before_of}
use Rattle.kn_step.specs.Sides.{Implies, AreSides}
use Rattle.kn_step.specs.declared.deciding.Sides.{Sides}
use Rattle.kn_step.specs.declared.deciding.Sides.TheVariants as sides

and_true : (b : Bool) → (b && true) ≡ b
and_true true = refl
and_true false = refl

-- a condition is alike to itself with what it implies
pub implied_alike : (c : Condition) (l : Literal Term) → Implies c l → ConditionAlike c (c ++ l ∷ [])
implied_alike c l h = record {
  holds = λ a. sym (holds_join a c (l ∷ []) ∙ go a (holds a c) (literal_holds a l) refl refl);
  reads = λ r x. subst (λ (rs : List Read). Contains rs r) (sym (reads_append c (l ∷ []))) (Contains-append_left (reads_of c) (reads_of (l ∷ [])) r x);
}
  where
    go : (a : Valuation) (b d : Bool) → holds a c ≡ b → literal_holds a l ≡ d → (b && (d && true)) ≡ b
    go a true true e f = refl
    go a true false e f = let t = h a e in absurd cc
    go a false d e f = refl

pub one_stands : (ns : List Node) (l : Listed) → l.term.index < length ns → StandIn ns (l ∷ [])
one_stands ns l h = λ place m e. go place m e
  where
    go : (place : ℕ) (m : Listed) → slice_get (l ∷ []) place ≡ Some m → m.term.index < length ns
    go zero m e = let same : l ≡ m = cc in subst (λ (x : Listed). x.term.index < length ns) same h
    go (suc place) m e = absurd cc

-- the literals in front stay where one comes behind
pub before_same : (ns : List Node) (own : ℕ) (cond : List Listed) (l : Listed) → own ≤ length cond → before_of ns own (cond ++ l ∷ []) ≡ before_of ns own cond
before_same ns own cond l h = ap (condition_of ns) (take-append-le own cond (l ∷ []) h)

further : (ns : List Node) (c b : Condition) (literals : List Listed) (l : Listed) → ConditionAlike c ((b ++ condition_of ns literals) ++ literal_of ns l ∷ []) → ConditionAlike c (b ++ condition_of ns (literals ++ l ∷ []))
further ns c b literals l h =
    subst (ConditionAlike c) (append_assoc b (condition_of ns literals) (literal_of ns l ∷ []) ∙ ap (λ (d : Condition). b ++ d) (sym (condition_of-append ns literals (l ∷ [])))) h

-- one more literal of the event, which is implied
pub implied_way : (ns : List Node) (registers memory : List Ref) (cond : List Listed) (own : ℕ) (literals more : List Listed) (l : Listed) → l.term.index < length ns → Implies (condition_of ns cond) (literal_of ns l)
    → more ≡ literals ++ l ∷ [] → IsWay ns registers memory cond own literals → IsWay ns registers memory cond own more
implied_way ns registers memory cond own literals more l stands implied e w = subst (IsWay ns registers memory cond own) (sym e) (record {
  registers_stand = w.registers_stand;
  memory_stands = w.memory_stands;
  known_stands = w.known_stands;
  literals_stand = StandIn-append ns literals (l ∷ []) w.literals_stand (one_stands ns l stands);
  few = w.few;
  known = further ns (condition_of ns cond) (before_of ns own cond) literals l (condition_through _ _ _ (implied_alike (condition_of ns cond) (literal_of ns l) implied) (joins _ _ _ _ w.known (condition_self (literal_of ns l ∷ []))));
})

-- and which says more
pub further_way : (ns : List Node) (registers memory : List Ref) (cond told : List Listed) (own : ℕ) (literals more : List Listed) (l : Listed) → l.term.index < length ns
    → told ≡ cond ++ l ∷ [] → more ≡ literals ++ l ∷ [] → IsWay ns registers memory cond own literals → IsWay ns registers memory told own more
further_way ns registers memory cond told own literals more l stands d e w = subst (λ (ls : List Listed). IsWay ns registers memory ls own more) (sym d) (subst (IsWay ns registers memory (cond ++ l ∷ []) own) (sym e) (record {
  registers_stand = w.registers_stand;
  memory_stands = w.memory_stands;
  known_stands = StandIn-append ns cond (l ∷ []) w.known_stands (one_stands ns l stands);
  literals_stand = StandIn-append ns literals (l ∷ []) w.literals_stand (one_stands ns l stands);
  few = let n = length-append cond (l ∷ []) in let h = w.few in omega (arith, n, h);
  known =
      subst (λ (b : Condition). ConditionAlike (condition_of ns (cond ++ l ∷ [])) (b ++ condition_of ns (literals ++ l ∷ []))) (sym (before_same ns own cond l w.few))
      (subst (λ (c : Condition). ConditionAlike c (before_of ns own cond ++ condition_of ns (literals ++ l ∷ []))) (sym (condition_of-append ns cond (l ∷ [])))
      (further ns (condition_of ns cond ++ literal_of ns l ∷ []) (before_of ns own cond) literals l (joins _ _ _ _ w.known (condition_self (literal_of ns l ∷ [])))));
}))

negated_bit : (b t : Bool) → same_bit b (not t) ≡ not (same_bit b t)
negated_bit true true = refl
negated_bit true false = refl
negated_bit false true = refl
negated_bit false false = refl

-- a negated literal holds where the literal does not
pub negated_holds : (a : Valuation) (l : Literal Term) → literal_holds a (negated l) ≡ not (literal_holds a l)
negated_holds a l = negated_bit (not (nat_eq (ev a l.value) 0)) l.truth

holds_one : (a : Valuation) (c : Condition) (l : Literal Term) → holds a (c ++ l ∷ []) ≡ (holds a c && literal_holds a l)
holds_one a c l = holds_join a c (l ∷ []) ∙ ap (λ (b : Bool). holds a c && b) (and_true (literal_holds a l))

-- where no inputs meet a condition with a literal, the condition implies the other side
pub shut_implies : (c : Condition) (l : Literal Term) → IsImpossible (that (c ++ l ∷ [])) → Implies c (negated l)
shut_implies c l h a e = negated_holds a l ∙ go (literal_holds a l) (ap (λ (b : Bool). b && literal_holds a l) (sym e) ∙ (sym (holds_one a c l) ∙ h a))
  where
    go : (b : Bool) → (true && b) ≡ false → not b ≡ true
    go true f = absurd cc
    go false f = refl

pub shut_other : (c : Condition) (l : Literal Term) → IsImpossible (that (c ++ negated l ∷ [])) → Implies c l
shut_other c l h a e = go (literal_holds a l) (literal_holds a (negated l)) (negated_holds a l) (ap (λ (b : Bool). b && literal_holds a (negated l)) (sym e) ∙ (sym (holds_one a c (negated l)) ∙ h a))
  where
    go : (b d : Bool) → d ≡ not b → (true && d) ≡ false → b ≡ true
    go true d f g = refl
    go false d f g = absurd cc

-- and where a condition implies one side, no inputs meet it with the other
pub implied_shuts : (c : Condition) (l : Literal Term) → Implies c l → IsImpossible (that (c ++ negated l ∷ []))
implied_shuts c l h a = holds_one a c (negated l) ∙ go (holds a c) (literal_holds a l) (literal_holds a (negated l)) (negated_holds a l) (h a)
  where
    go : (b d n : Bool) → n ≡ not d → (b ≡ true → d ≡ true) → (b && n) ≡ false
    go true true n f g = f
    go true false n f g = let t = g refl in absurd cc
    go false d n f g = refl

pub implied_other : (c : Condition) (l : Literal Term) → Implies c (negated l) → IsImpossible (that (c ++ l ∷ []))
implied_other c l h a = holds_one a c l ∙ go (holds a c) (literal_holds a l) (literal_holds a (negated l)) (negated_holds a l) (h a)
  where
    go : (b d n : Bool) → n ≡ not d → (b ≡ true → n ≡ true) → (b && d) ≡ false
    go true true n f g = let t = g refl in absurd cc
    go true false n f g = refl
    go false d n f g = refl

-- a condition implies each of its literals
pub among_implies : (ns : List Node) (ls : List Listed) (l : Listed) → Contains ls l → Implies (condition_of ns ls) (literal_of ns l)
among_implies ns ls l h = go ls h.0 h.1 h.2
  where
    go : (ls : List Listed) (i : ℕ) → i < length ls → get_or ls i l ≡ l → Implies (condition_of ns ls) (literal_of ns l)
    go [] i inside e a holds_all = absurd (omega (arith, inside))
    go (x ∷ ls) zero inside e a holds_all = ap (λ (y : Listed). literal_holds a (literal_of ns y)) (sym e) ∙ (both_true (literal_holds a (literal_of ns x)) (holds a (condition_of ns ls)) holds_all).0
    go (x ∷ ls) (suc i) inside e a holds_all = go ls i (omega (arith, inside)) e a (both_true (literal_holds a (literal_of ns x)) (holds a (condition_of ns ls)) holds_all).1

-- a literal on a word
pub word_implies : (c : Condition) (l : Literal Term) (w : ℕ) → l.value ≡ Word w → word_holds (record { value = w; truth = l.truth }) ≡ true → Implies c l
word_implies c l w is e a h = ap (λ (t : Term). word_holds (record { value = ev a t; truth = l.truth })) is ∙ e

pub word_denies : (c : Condition) (l : Literal Term) (w : ℕ) → l.value ≡ Word w → word_holds (record { value = w; truth = l.truth }) ≡ false → Implies c (negated l)
word_denies c l w is e a h = negated_holds a l ∙ ap not (ap (λ (t : Term). word_holds (record { value = ev a t; truth = l.truth })) is ∙ e)

-- what is implied where no inputs meet the first side, and where none meet the second
pub none_first : (conflicts : ℕ) (c : Condition) (l : Literal Term) (o : Option Standing) → o ≡ None → MatchOption o (IsImpossible (that (c ++ l ∷ []))) (StandsFor conflicts (that (c ++ l ∷ []))) → Implies c (negated l)
none_first conflicts c l o e h =
    shut_implies c l (subst (λ (p : Option Standing). MatchOption p (IsImpossible (that (c ++ l ∷ []))) (StandsFor conflicts (that (c ++ l ∷ [])))) e h)

pub none_second : (conflicts : ℕ) (c : Condition) (l m : Literal Term) (o : Option Standing) → o ≡ None → m ≡ negated l → MatchOption o (IsImpossible (that (c ++ m ∷ []))) (StandsFor conflicts (that (c ++ m ∷ []))) → Implies c l
none_second conflicts c l m o e is h =
    let shut : IsImpossible (that (c ++ m ∷ [])) = subst (λ (p : Option Standing). MatchOption p (IsImpossible (that (c ++ m ∷ []))) (StandsFor conflicts (that (c ++ m ∷ [])))) e h in
    shut_other c l (subst (λ (x : Literal Term). IsImpossible (that (c ++ x ∷ []))) is shut)

-- what is judged of a condition with one literal more
pub judged_one : (budget : ℕ) (ns : List Node) (cond more : List Listed) (l : Listed) (j : Judged) → more ≡ l ∷ [] → IsJudged budget (that (condition_of ns cond ++ condition_of ns more)) j
    → IsJudged budget (that (condition_of ns cond ++ literal_of ns l ∷ [])) j
judged_one budget ns cond more l j e h = subst (λ (ls : List Listed). IsJudged budget (that (condition_of ns cond ++ condition_of ns ls)) j) e h

-- which side is implied
pub is_first : (conflicts : ℕ) (c : Condition) (l : Literal Term) (s : Sides) → s ≡ sides.First → AreSides conflicts c l s → Implies c l
is_first conflicts c l s e h = subst (AreSides conflicts c l) e h

pub is_second : (conflicts : ℕ) (c : Condition) (l : Literal Term) (s : Sides) → s ≡ sides.Second → AreSides conflicts c l s → Implies c (negated l)
is_second conflicts c l s e h = subst (AreSides conflicts c l) e h
