-- Numbers that are gathered from lists, each once.
use Rattle.std.proofs.Common.{◌≡◌, ℕ, ◌+◌, ◌<◌, Bool, true, false, cond, List, [], ◌∷◌, ◌++◌, refl, ap, sym, ◌∙◌, arith, Some, None, Option, inl, inr, eq-eqb}
use Rattle.std.specs.Prelude.{◌⊎◌, ◌||◌, nat_eq}
use Rattle.std.proofs.lemmas.Bool.{eqb-true}
use Rattle.kn_dstate.specs.Places.{PlaceView, times, is_in, AreDistinct}
use Rattle.kn_dstate.specs.Graphs.{at, IsHeld}
use Rattle.kn_dstate.specs.Gathered.{with_number, with_all, column_in, gathered}

or-assoc : (a b c : Bool) → ((a || b) || c) ≡ (a || (b || c))
or-assoc true b c = refl
or-assoc false b c = refl

pub or-false : (a : Bool) → (a || false) ≡ a
or-false true = refl
or-false false = refl

or-true : (a : Bool) → (a || true) ≡ true
or-true true = refl
or-true false = refl

pub or_cases : (a b : Bool) → (a || b) ≡ true → (a ≡ true) ⊎ (b ≡ true)
or_cases true b e = inl refl
or_cases false b e = inr e

pub is_in-append : (y : ℕ) (c d : List ℕ) → is_in y (c ++ d) ≡ (is_in y c || is_in y d)
is_in-append y [] d = refl
is_in-append y (x ∷ c) d = ap (λ (b : Bool). nat_eq x y || b) (is_in-append y c d) ∙ sym (or-assoc (nat_eq x y) (is_in y c) (is_in y d))

pub times-append : (y : ℕ) (c d : List ℕ) → times y (c ++ d) ≡ times y c + times y d
times-append y [] d = omega arith
times-append y (x ∷ c) d = omega (arith, times-append y c d)

pub times-none : (y : ℕ) (c : List ℕ) → is_in y c ≡ false → times y c ≡ 0
times-none y [] e = refl
times-none y (x ∷ c) e = go (nat_eq x y) e (times-none y c)
  where
    go : (b : Bool) → (b || is_in y c) ≡ false → (is_in y c ≡ false → times y c ≡ 0) → cond b 1 0 + times y c ≡ 0
    go true e rest = absurd cc
    go false e rest = let none = rest e in omega (arith, none)

is_in-with_number : (y x : ℕ) (c : List ℕ) → is_in y (with_number x c) ≡ (is_in y c || nat_eq x y)
is_in-with_number y x c = go (is_in x c) refl
  where
    known : (b : Bool) → nat_eq x y ≡ b → is_in x c ≡ true → is_in y c ≡ (is_in y c || b)
    known true e there = let here : is_in y c ≡ true = ap (λ (k : ℕ). is_in k c) (sym (eqb-true x y e)) ∙ there in here ∙ sym (or-true (is_in y c))
    known false e there = sym (or-false (is_in y c))

    go : (b : Bool) → is_in x c ≡ b → is_in y (cond b c (c ++ x ∷ [])) ≡ (is_in y c || nat_eq x y)
    go true e = known (nat_eq x y) refl e
    go false e = is_in-append y c (x ∷ []) ∙ ap (λ (b : Bool). is_in y c || b) (or-false (nat_eq x y))

with_number-once : (x : ℕ) (c : List ℕ) → AreDistinct c → AreDistinct (with_number x c)
with_number-once x c once y = go (is_in x c) refl
  where
    more : (b : Bool) → nat_eq x y ≡ b → is_in x c ≡ false → times y c + (cond b 1 0 + 0) < 2
    more true e none = let nothing : times y c ≡ 0 = ap (λ (k : ℕ). times k c) (sym (eqb-true x y e)) ∙ times-none x c none in omega (arith, nothing)
    more false e none = let low = once y in omega (arith, low)

    go : (b : Bool) → is_in x c ≡ b → times y (cond b c (c ++ x ∷ [])) < 2
    go true e = once y
    go false e = let low = more (nat_eq x y) refl e in omega (arith, low, times-append y c (x ∷ []))

is_in-with_all : (y : ℕ) (xs c : List ℕ) → is_in y (with_all xs c) ≡ (is_in y c || is_in y xs)
is_in-with_all y [] c = sym (or-false (is_in y c))
is_in-with_all y (x ∷ xs) c =
    is_in-with_all y xs (with_number x c) ∙ (ap (λ (b : Bool). b || is_in y xs) (is_in-with_number y x c) ∙ or-assoc (is_in y c) (nat_eq x y) (is_in y xs))

with_all-once : (xs c : List ℕ) → AreDistinct c → AreDistinct (with_all xs c)
with_all-once [] c once = once
with_all-once (x ∷ xs) c once = with_all-once xs (with_number x c) (with_number-once x c once)

pub gathered-once : (ds : List (Option PlaceView)) (n : ℕ) (keys c : List ℕ) → AreDistinct c → AreDistinct (gathered ds n keys c)
gathered-once ds n [] c once = once
gathered-once ds n (d ∷ keys) c once = gathered-once ds n keys (with_all (column_in (at ds d) n) c) (with_all-once (column_in (at ds d) n) c once)

-- some dstate of these numbers has the state
abbrev pub IsHeldBy : List (Option PlaceView) → ℕ → ℕ → List ℕ → Type 0
IsHeldBy ds n x keys = (d : ℕ) × (is_in d keys ≡ true) × IsHeld ds n x d

held_in : (ds : List (Option PlaceView)) (n x d : ℕ) → is_in x (column_in (at ds d) n) ≡ true → IsHeld ds n x d
held_in ds n x d e = go (at ds d) refl e
  where
    go : (o : Option PlaceView) → at ds d ≡ o → is_in x (column_in o n) ≡ true → IsHeld ds n x d
    go None is e = absurd cc
    go (Some p) is e = (p, is, e)

in_held : (ds : List (Option PlaceView)) (n x d : ℕ) → IsHeld ds n x d → is_in x (column_in (at ds d) n) ≡ true
in_held ds n x d h = ap (λ (o : Option PlaceView). is_in x (column_in o n)) h.1 ∙ h.2

pub gathered-held : (ds : List (Option PlaceView)) (n x : ℕ) (keys c : List ℕ) → is_in x (gathered ds n keys c) ≡ true → (is_in x c ≡ true) ⊎ IsHeldBy ds n x keys
gathered-held ds n x [] c e = inl e
gathered-held ds n x (d ∷ keys) c e = elim (gathered-held ds n x keys (with_all (column_in (at ds d) n) c) e) [
  | inl here ↦ elim (or_cases (is_in x c) (is_in x (column_in (at ds d) n)) (sym (is_in-with_all x (column_in (at ds d) n) c) ∙ here)) [
    | inl before ↦ inl before
    | inr now ↦ inr (d, ap (λ (b : Bool). b || is_in d keys) (eq-eqb d d refl), held_in ds n x d now)
  ]
  | inr later ↦ inr (later.0, ap (λ (b : Bool). nat_eq d later.0 || b) later.1 ∙ or-true (nat_eq d later.0), later.2)
]

pub gathered-kept : (ds : List (Option PlaceView)) (n x : ℕ) (keys c : List ℕ) → is_in x c ≡ true → is_in x (gathered ds n keys c) ≡ true
gathered-kept ds n x [] c e = e
gathered-kept ds n x (d ∷ keys) c e = gathered-kept ds n x keys (with_all (column_in (at ds d) n) c) (is_in-with_all x (column_in (at ds d) n) c ∙ ap (λ (b : Bool). b || is_in x (column_in (at ds d) n)) e)

pub held-gathered : (ds : List (Option PlaceView)) (n x d : ℕ) (keys c : List ℕ) → is_in d keys ≡ true → IsHeld ds n x d → is_in x (gathered ds n keys c) ≡ true
held-gathered ds n x d [] c e h = absurd cc
held-gathered ds n x d (k ∷ keys) c e h = elim (or_cases (nat_eq k d) (is_in d keys) e) [
  | inl same ↦ gathered-kept ds n x keys (with_all (column_in (at ds k) n) c)
      (is_in-with_all x (column_in (at ds k) n) c ∙ (ap (λ (j : ℕ). is_in x c || is_in x (column_in (at ds j) n)) (eqb-true k d same) ∙ (ap (λ (b : Bool). is_in x c || b) (in_held ds n x d h) ∙ or-true (is_in x c))))
  | inr later ↦ held-gathered ds n x d keys (with_all (column_in (at ds k) n) c) later h
]
