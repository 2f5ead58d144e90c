-- The literals of clauses, and how a clause stands with more of them.
use Rattle.std.proofs.Common.{◌≡◌, ℕ, Bool, true, false, not, List, [], ◌∷◌, ◌++◌, take, drop, refl, ap, sym, subst, ◌∙◌, inl, inr}
use Rattle.std.specs.Prelude.{Some, None, ◌⊎◌}
use Rattle.std.specs.declared.option.Option.{Option}
use Rattle.std.proofs.lemmas.Bool.{cases_Bool}
use Rattle.std.proofs.lemmas.List.{take-append-drop}
use Rattle.kn_cnf.specs.declared.clauses.Lit.{Lit}
use Rattle.kn_cnf.specs.Units.{negated, lit_value, Has, IsFalse, IsUnit}
use Rattle.kn_cnf.proofs.Equal.{same_lit, lit_decides}
use Rattle.kn_cnf.specs.declared.states.ClauseState.{ClauseState}
use Rattle.kn_cnf.specs.declared.states.ClauseState.TheVariants as states
use Rattle.kn_cnf.specs.States.{IsCalm, IsState}

-- two values are not the same
pub open_false : (o : Option Bool) → o ≡ None → o ≡ Some false → ⊥
open_false None a b = cc
open_false (Some x) a b = cc

pub open_true : (o : Option Bool) → o ≡ None → o ≡ Some true → ⊥
open_true None a b = cc
open_true (Some x) a b = cc

pub true_false : (o : Option Bool) → o ≡ Some true → o ≡ Some false → ⊥
true_false o a b = let wrong : Some true ≡ Some false = sym a ∙ b in cc

-- two literals are one or not
pub same_or_not : (l m : Lit) → (l ≡ m) ⊎ (l ≡ m → ⊥)
same_or_not l m = elim (cases_Bool (same_lit l m)) [
  | inl is ↦ inl ((lit_decides l m).0 is)
  | inr is ↦ inr (λ e. let wrong : true ≡ false = sym ((lit_decides l m).1 e) ∙ is in cc)
]

-- a clause has a literal or not
pub has_or_not : (c : List Lit) (l : Lit) → Has c l ⊎ (Has c l → ⊥)
has_or_not [] l = inr (λ h. h)
has_or_not (m ∷ ms) l = elim (same_or_not m l) [
  | inl e ↦ inl (inl e)
  | inr n ↦ elim (has_or_not ms l) [
    | inl h ↦ inl (inr h)
    | inr o ↦ inr (λ h. elim h [ inl e ↦ n e | inr g ↦ o g ])
  ]
]

-- the literals of a clause with one more
pub has_more : (c : List Lit) (y l : Lit) → Has (c ++ y ∷ []) l → Has c l ⊎ (y ≡ l)
has_more [] y l h = elim h [ inl e ↦ inr e | inr o ↦ absurd o ]
has_more (m ∷ ms) y l h = elim h [
  | inl e ↦ inl (inl e)
  | inr g ↦ elim (has_more ms y l g) [ inl k ↦ inl (inr k) | inr e ↦ inr e ]
]

pub has_front : (c d : List Lit) (l : Lit) → Has c l → Has (c ++ d) l
has_front [] d l h = absurd h
has_front (m ∷ ms) d l h = elim h [ inl e ↦ inl e | inr g ↦ inr (has_front ms d l g) ]

pub has_last : (c : List Lit) (y : Lit) → Has (c ++ y ∷ []) y
has_last [] y = inl refl
has_last (m ∷ ms) y = inr (has_last ms y)

pub not_not : (b : Bool) → not (not b) ≡ b
not_not true = refl
not_not false = refl

-- a literal negated twice
pub twice : (l : Lit) → negated (negated l) ≡ l
twice l = ap (λ (n : Bool). record { var = l.var; neg = n }) (not_not l.neg)

-- a clause that is neither false nor unit stays so with more literals
calm_more : (ls xs ys : List Lit) → IsCalm ls xs → IsCalm ls (xs ++ ys)
calm_more ls xs ys calm = (
  λ f. calm.0 (λ m h. f m (has_front xs ys m h)),
  λ l u. elim (has_or_not xs l) [
    | inl g ↦ calm.1 l (record { has = g; opens = u.opens; others = λ m h n. u.others m (has_front xs ys m h) n })
    | inr o ↦ calm.0 (λ m h. u.others m (has_front xs ys m h) (λ e. o (subst (Has xs) e h)))
  ],
)

-- what was found calm early stays calm
pub calm_whole : (ls c : List Lit) (i : ℕ) → IsCalm ls (take i c) → IsCalm ls c
calm_whole ls c i calm = subst (IsCalm ls) (take-append-drop i c) (calm_more ls (take i c) (drop i c) calm)

module _ (ls xs : List Lit) (y : Lit) where
  false_more : lit_value ls y ≡ Some false → IsFalse ls xs → IsFalse ls (xs ++ y ∷ [])
  false_more v f m h = elim (has_more xs y m h) [ inl g ↦ f m g | inr e ↦ subst (λ (k : Lit). lit_value ls k ≡ Some false) e v ]

  -- a true literal
  pub with_true : lit_value ls y ≡ Some true → IsState ls (xs ++ y ∷ []) states.Other
  with_true v = (
    λ f. true_false _ v (f y (has_last xs y)),
    λ l u. elim (same_or_not y l) [
      | inl e ↦ open_true _ u.opens (subst (λ (k : Lit). lit_value ls k ≡ Some true) e v)
      | inr n ↦ true_false _ v (u.others y (has_last xs y) n)
    ],
  )

  -- a false literal
  pub with_false : lit_value ls y ≡ Some false → (st : ClauseState) → IsState ls xs st → IsState ls (xs ++ y ∷ []) st
  with_false v states.False m = false_more v m
  with_false v (states.Unit l) u = record {
    has = has_front xs (y ∷ []) l u.has;
    opens = u.opens;
    others = λ m h n. elim (has_more xs y m h) [ inl g ↦ u.others m g n | inr e ↦ subst (λ (k : Lit). lit_value ls k ≡ Some false) e v ];
  }
  with_false v states.Other m = calm_more ls xs (y ∷ []) m

  -- the first open literal
  pub with_first : lit_value ls y ≡ None → IsFalse ls xs → IsState ls (xs ++ y ∷ []) (states.Unit y)
  with_first v f = record {
    has = has_last xs y;
    opens = v;
    others = λ m h n. elim (has_more xs y m h) [ inl g ↦ f m g | inr e ↦ absurd (n (sym e)) ];
  }

  -- the open literal once more
  pub with_same : (m : Lit) → m ≡ y → IsUnit ls xs m → IsState ls (xs ++ y ∷ []) (states.Unit m)
  with_same m same u = record {
    has = has_front xs (y ∷ []) m u.has;
    opens = u.opens;
    others = λ k h n. elim (has_more xs y k h) [ inl g ↦ u.others k g n | inr e ↦ absurd (n (sym e ∙ sym same)) ];
  }

  -- another open literal
  pub with_second : lit_value ls y ≡ None → (m : Lit) → (m ≡ y → ⊥) → IsUnit ls xs m → IsState ls (xs ++ y ∷ []) states.Other
  with_second v m apart u = (
    λ f. open_false _ v (f y (has_last xs y)),
    λ l w.
        let first : m ≡ l → ⊥ = λ e. open_false _ v (w.others y (has_last xs y) (λ yl. apart (e ∙ sym yl))) in
        open_false _ u.opens (w.others m (has_front xs (y ∷ []) m u.has) first),
  )

  -- any literal where nothing helps
  pub with_any : IsState ls xs states.Other → IsState ls (xs ++ y ∷ []) states.Other
  with_any m = calm_more ls xs (y ∷ []) m
