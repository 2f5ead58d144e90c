-- A condition that clashes is met by no inputs; conditions in another order are met by the same inputs.
use Rattle.std.proofs.Common.{◌≡◌, ◌⊎◌, inl, inr, Bool, true, false, List, [], ◌∷◌, ◌++◌, refl, sym, ap, subst, ◌∙◌}
use Rattle.std.specs.Prelude.{not, ◌&&◌, ◌||◌, nat_eq}
use Rattle.std.specs.List.{AllByRecursion}
use Rattle.std.proofs.lemmas.Bool.{eqb-true}
use Rattle.kn_model.specs.Values.{Literal}
use Rattle.kn_model.specs.Terms.{Term, Word, Input, Apply, Choice, Valuation, ev, word_holds, same_bit}
use Rattle.kn_model.specs.Nodes.{State}
use Rattle.kn_model.specs.Conditions.{Condition, holds, literal_holds, IsImpossible, that}
use Rattle.kn_model.specs.Deciding.{is_false, is_false_on, opposes, opposes_on, some_opposes, clashes, differ, joined, none_clashes}
use Rattle.kn_model.proofs.Under.{holds-append}

-- tests
pub both : (x y : Bool) → (x && y) ≡ true → (x ≡ true) × (y ≡ true)
both true y e = (refl, e)
both false y e = absurd cc

pub either : (x y : Bool) → (x || y) ≡ true → (x ≡ true) ⊎ (y ≡ true)
either true y e = inl refl
either false y e = inr e

pub neither : (x y : Bool) → (x || y) ≡ false → (x ≡ false) × (y ≡ false)
neither true y e = absurd cc
neither false y e = (refl, e)

pub or_true : (x : Bool) → (x || true) ≡ true
or_true true = refl
or_true false = refl

and_swap : (x y : Bool) → (x && y) ≡ (y && x)
and_swap true true = refl
and_swap true false = refl
and_swap false true = refl
and_swap false false = refl

pub and_false : (x : Bool) → (x && false) ≡ false
and_false true = refl
and_false false = refl

pub not_true : (x : Bool) → not x ≡ true → x ≡ false
not_true true e = absurd cc
not_true false e = refl

-- a literal, from its parts
abbrev pub on : Term → Bool → Literal Term
on t truth = record { value = t; truth = truth }

false_dead : (a : Valuation) (t : Term) (truth : Bool) → is_false_on t truth ≡ true → literal_holds a (on t truth) ≡ false
false_dead a (Word w) truth e = not_true (word_holds (record { value = w; truth = truth })) e
false_dead a (Input n k width) truth e = absurd cc
false_dead a (Apply op x y) truth e = absurd cc
false_dead a (Choice c x y) truth e = absurd cc

differ_dead : (b x y : Bool) → differ x y ≡ true → same_bit b x ≡ true → same_bit b y ≡ false
differ_dead true true true d e = absurd cc
differ_dead true true false d e = refl
differ_dead true false y d e = absurd cc
differ_dead false true y d e = absurd cc
differ_dead false false true d e = refl
differ_dead false false false d e = absurd cc

opposed_dead : (a : Valuation) (t : Term) (truth : Bool) (u : Term) (truth' : Bool) → opposes_on t truth u truth' ≡ true → literal_holds a (on t truth) ≡ true → literal_holds a (on u truth') ≡ false
opposed_dead a (Input n k width) truth (Input m j other) truth' e h =
    let w = both (nat_eq width 1) _ e in
    let o = both (nat_eq other 1) _ w.1 in
    let n' = both (nat_eq n m) _ o.1 in
    let k' = both (nat_eq k j) (differ truth truth') n'.1 in
    let first : literal_holds a (on (Input n k 1) truth) ≡ true = subst (λ x. literal_holds a (on (Input n k x) truth) ≡ true) (eqb-true width 1 w.0) h in
    let second : literal_holds a (on (Input m j 1) truth) ≡ true = subst (λ x. literal_holds a (on (Input x j 1) truth) ≡ true) (eqb-true n m n'.0) (subst (λ x. literal_holds a (on (Input n x 1) truth) ≡ true) (eqb-true k j k'.0) first) in
    subst (λ x. literal_holds a (on (Input m j x) truth') ≡ false) (sym (eqb-true other 1 o.0)) (differ_dead (not (nat_eq (ev a (Input m j 1)) 0)) truth truth' k'.1 second)
opposed_dead a (Input n k width) truth (Word w) truth' e h = absurd cc
opposed_dead a (Input n k width) truth (Apply op x y) truth' e h = absurd cc
opposed_dead a (Input n k width) truth (Choice c x y) truth' e h = absurd cc
opposed_dead a (Word w) truth u truth' e h = absurd cc
opposed_dead a (Apply op x y) truth u truth' e h = absurd cc
opposed_dead a (Choice c x y) truth u truth' e h = absurd cc

some_opposed_dead : (a : Valuation) (l : Literal Term) (c : Condition) → some_opposes l c ≡ true → literal_holds a l ≡ true → holds a c ≡ false
some_opposed_dead a l [] e h = absurd cc
some_opposed_dead a l (m ∷ c) e h = elim (either (opposes l m) (some_opposes l c) e) [
  | inl x ↦ ap (λ (b : Bool). b && holds a c) (opposed_dead a l.value l.truth m.value m.truth x h)
  | inr x ↦ ap (λ (b : Bool). literal_holds a m && b) (some_opposed_dead a l c x h) ∙ and_false (literal_holds a m)
]

-- a condition that clashes holds under no inputs
pub clash_dead : (c : Condition) → clashes c ≡ true → (a : Valuation) → holds a c ≡ false
clash_dead [] e a = absurd cc
clash_dead (l ∷ c) e a = elim (either (is_false l) (some_opposes l c || clashes c) e) [
  | inl x ↦ ap (λ (b : Bool). b && holds a c) (false_dead a l.value l.truth x)
  | inr x ↦ elim (either (some_opposes l c) (clashes c) x) [
    | inl y ↦ by_first (literal_holds a l) (holds a c) (λ h. some_opposed_dead a l c y h)
    | inr y ↦ ap (λ (b : Bool). literal_holds a l && b) (clash_dead c y a) ∙ and_false (literal_holds a l)
  ]
]
  where
    by_first : (x y : Bool) → (x ≡ true → y ≡ false) → (x && y) ≡ false
    by_first true y h = h refl
    by_first false y h = refl

pub clash_is_impossible : (c : Condition) → clashes c ≡ true → IsImpossible (that c)
clash_is_impossible c e = clash_dead c e

-- a clash stays where more is joined, behind or before
opposed_longer : (l : Literal Term) (c d : Condition) → some_opposes l c ≡ true → some_opposes l (c ++ d) ≡ true
opposed_longer l [] d e = absurd cc
opposed_longer l (m ∷ c) d e = elim (either (opposes l m) (some_opposes l c) e) [
  | inl x ↦ ap (λ (b : Bool). b || some_opposes l (c ++ d)) x
  | inr x ↦ ap (λ (b : Bool). opposes l m || b) (opposed_longer l c d x) ∙ or_true (opposes l m)
]

pub clash_stays : (c d : Condition) → clashes c ≡ true → clashes (c ++ d) ≡ true
clash_stays [] d e = absurd cc
clash_stays (l ∷ c) d e = elim (either (is_false l) (some_opposes l c || clashes c) e) [
  | inl x ↦ ap (λ (b : Bool). b || (some_opposes l (c ++ d) || clashes (c ++ d))) x
  | inr x ↦ ap (λ (b : Bool). is_false l || b) (elim (either (some_opposes l c) (clashes c) x) [
    | inl y ↦ ap (λ (b : Bool). b || clashes (c ++ d)) (opposed_longer l c d y)
    | inr y ↦ ap (λ (b : Bool). some_opposes l (c ++ d) || b) (clash_stays c d y) ∙ or_true (some_opposes l (c ++ d))
  ]) ∙ or_true (is_false l)
]

pub clash_behind : (c d : Condition) → clashes d ≡ true → clashes (c ++ d) ≡ true
clash_behind [] d e = e
clash_behind (l ∷ c) d e =
    ap (λ (b : Bool). is_false l || (some_opposes l (c ++ d) || b)) (clash_behind c d e) ∙ (ap (λ (b : Bool). is_false l || b) (or_true (some_opposes l (c ++ d))) ∙ or_true (is_false l))

-- own conditions, joined, hold exactly where each of them holds
pub joined_holds : (a : Valuation) (ss : List (State Term)) → AllByRecursion (λ (s : State Term). holds a s.own ≡ true) ss → holds a (joined ss) ≡ true
joined_holds a [] h = refl
joined_holds a (s ∷ ss) h = holds-append a s.own (joined ss) ∙ (ap (λ (b : Bool). b && holds a (joined ss)) h.0 ∙ joined_holds a ss h.1)

pub each_holds : (a : Valuation) (ss : List (State Term)) → holds a (joined ss) ≡ true → AllByRecursion (λ (s : State Term). holds a s.own ≡ true) ss
each_holds a [] h = tt
each_holds a (s ∷ ss) h = let x = both (holds a s.own) (holds a (joined ss)) (sym (holds-append a s.own (joined ss)) ∙ h) in (x.0, each_holds a ss x.1)

-- where one node's own condition clashes, the joined one does
pub joined_clash : (ss : List (State Term)) → clashes (joined ss) ≡ false → none_clashes ss ≡ true
joined_clash [] e = refl
joined_clash (s ∷ ss) e = go (clashes s.own) (clashes (joined ss)) refl refl (joined_clash ss)
  where
    go : (x y : Bool) → clashes s.own ≡ x → clashes (joined ss) ≡ y → (clashes (joined ss) ≡ false → none_clashes ss ≡ true) → none_clashes (s ∷ ss) ≡ true
    go true y h i rest = let wrong : true ≡ false = sym (clash_stays s.own (joined ss) h) ∙ e in absurd cc
    go false true h i rest = let wrong : true ≡ false = sym (clash_behind s.own (joined ss) i) ∙ e in absurd cc
    go false false h i rest = ap (λ (b : Bool). not b && none_clashes ss) h ∙ rest i
