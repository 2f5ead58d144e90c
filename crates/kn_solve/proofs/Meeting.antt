-- The word of a formula's term is 1 where inputs meet it, else 0.
use Rattle.std.proofs.Common.{◌≡◌, ℕ, Bool, true, false, List, [], ◌∷◌, refl, sym, ap, ◌∙◌}
use Rattle.std.specs.Prelude.{if◌then◌else◌, ◌&&◌, ◌||◌, not, nat_eq}
use Rattle.kn_term.specs.Terms.{Term, Word, Choice, Valuation, ev, chosen_word}
use Rattle.kn_cond.specs.Literals.{Literal, same_bit}
use Rattle.kn_cond.specs.Conditions.{Condition, literal_holds, holds, some_holds, columns_hold}
use Rattle.kn_solve.specs.Formulas.{Asked, query_of}
use Rattle.kn_solve.specs.Wholes.{taken_in, with_literal, with_condition, with_alternative, with_column, with_columns, whole}

-- a number where a test holds, else 0
abbrev gate : Bool → ℕ → ℕ
gate b n = if b then n else 0

gate_both : (a b : Bool) (n : ℕ) → gate b (gate a n) ≡ gate (a && b) n
gate_both true b n = refl
gate_both false true n = refl
gate_both false false n = refl

chosen_true : (truth : Bool) (c n : ℕ) → (if truth then chosen_word c n 0 else chosen_word c 0 n) ≡ gate (same_bit (not (nat_eq c 0)) truth) n
chosen_true truth c n = go truth (nat_eq c 0) where
  go : (t z : Bool) → (if t then (if z then 0 else n) else (if z then n else 0)) ≡ gate (same_bit (not z) t) n
  go true true = refl
  go true false = refl
  go false true = refl
  go false false = refl

ev_literal : (a : Valuation) (l : Literal Term) (t : Term) → ev a (with_literal l t) ≡ gate (literal_holds a l) (ev a t)
ev_literal a l t = split l.truth ∙ chosen_true l.truth (ev a l.value) (ev a t) where
  split : (truth : Bool) → ev a (if truth then Choice l.value t (Word 0) else Choice l.value (Word 0) t) ≡ (if truth then chosen_word (ev a l.value) (ev a t) 0 else chosen_word (ev a l.value) 0 (ev a t))
  split true = refl
  split false = refl

pub ev_condition : (a : Valuation) (c : Condition) (t : Term) → ev a (with_condition c t) ≡ gate (holds a c) (ev a t)
ev_condition a [] t = refl
ev_condition a (l ∷ c) t = ev_condition a c (with_literal l t) ∙ (ap (gate (holds a c)) (ev_literal a l t) ∙ gate_both (literal_holds a l) (holds a c) (ev a t))

chosen_one : (b : Bool) (n : ℕ) → chosen_word (gate b 1) 1 n ≡ (if b then 1 else n)
chosen_one true n = refl
chosen_one false n = refl

ev_alternative : (a : Valuation) (c : Condition) (t : Term) → ev a (with_alternative c t) ≡ (if holds a c then 1 else ev a t)
ev_alternative a c t = ap (λ (n : ℕ). chosen_word n 1 (ev a t)) (ev_condition a c (Word 1)) ∙ chosen_one (holds a c) (ev a t)

one_of_both : (a b : Bool) (n : ℕ) → (if b then 1 else (if a then 1 else n)) ≡ (if a || b then 1 else n)
one_of_both true true n = refl
one_of_both true false n = refl
one_of_both false b n = refl

ev_alternatives : (a : Valuation) (cs : List Condition) (t : Term) → ev a (taken_in with_alternative cs t) ≡ (if some_holds a cs then 1 else ev a t)
ev_alternatives a [] t = refl
ev_alternatives a (c ∷ cs) t =
    ev_alternatives a cs (with_alternative c t) ∙ (ap (λ (n : ℕ). if some_holds a cs then 1 else n) (ev_alternative a c t) ∙ one_of_both (holds a c) (some_holds a cs) (ev a t))

chosen_gate : (b : Bool) (n : ℕ) → chosen_word (if b then 1 else 0) n 0 ≡ gate b n
chosen_gate true n = refl
chosen_gate false n = refl

ev_column : (a : Valuation) (cs : List Condition) (t : Term) → ev a (with_column cs t) ≡ gate (some_holds a cs) (ev a t)
ev_column a cs t = ap (λ (n : ℕ). chosen_word n (ev a t) 0) (ev_alternatives a cs (Word 0)) ∙ chosen_gate (some_holds a cs) (ev a t)

ev_columns : (a : Valuation) (css : List (List Condition)) (t : Term) → ev a (with_columns css t) ≡ gate (columns_hold a css) (ev a t)
ev_columns a [] t = refl
ev_columns a (cs ∷ css) t = ev_columns a css (with_column cs t) ∙ (ap (gate (columns_hold a css)) (ev_column a cs t) ∙ gate_both (some_holds a cs) (columns_hold a css) (ev a t))

-- inputs meet a formula where its term is not 0
pub meets_whole : (f : Asked) (a : Valuation) → (query_of f).meets a ≡ not (nat_eq (ev a (whole f)) 0)
meets_whole f a =
    sym (ap (λ (n : ℕ). not (nat_eq n 0)) (ev_columns a f.columns (with_condition f.condition (Word 1)) ∙ ap (gate (columns_hold a f.columns)) (ev_condition a f.condition (Word 1))) ∙ tested (holds a f.condition) (columns_hold a f.columns))
  where
    tested : (h k : Bool) → not (nat_eq (gate k (gate h 1)) 0) ≡ (h && k)
    tested true true = refl
    tested true false = refl
    tested false true = refl
    tested false false = refl
