-- What holds of a graph whose dstates come and go.
use Rattle.std.proofs.Common.{◌≡◌, ◌≢◌, ℕ, zero, suc, ◌+◌, ◌<◌, ◌≤◌, Bool, true, false, cond, List, [], ◌∷◌, ◌++◌, length, length-append, get_or, refl, ap, subst, sym, ◌∙◌, arith, Some, None, Option, inl, inr, eq-eqb}
use Rattle.std.specs.Prelude.{◌||◌, ◌⊎◌, ◌&&◌, ◌-◌, nat_eq, not, slice_get, option_map}
use Rattle.std.proofs.lemmas.Bool.{eqb-true}
use Rattle.std.proofs.lemmas.Option.{get_or_from_slice_get}
use Rattle.kn_dstate.specs.declared.row.Row.{Row}
use Rattle.kn_dstate.specs.Histories.{told, IsHistoryOf}
use Rattle.kn_dstate.specs.Places.{PlaceView, is_in, times, others, holds, AreDistinct}
use Rattle.kn_dstate.specs.Graphs.{KnownView, Held, known_of, shown, at, IsHeld, IsStateOf, IsPlace, IsKnown, IsGraph}
use Rattle.std.specs.List.{AllByRecursion}
use Rattle.kn_dstate.specs.Members.{is_found, ends_with, noted, noted_slot, forgot, is_nothing, is_idle, unless_idle, left_slot, is_among, is_of_some, columns_of, Became, emptied, HasRoom, bare, all_bare}
use Rattle.kn_dstate.proofs.Gathering.{or_cases, is_in-append, times-append, times-none, or-false}
use Rattle.kn_dstate.proofs.Changing.{some_last, at-bare}
use Rattle.kn_dstate.proofs.Holding.{at-shown, held_known, same_or}

pub some_none : {A : Type 0} {P : Type 0} (o : Option A) (x : A) → o ≡ Some x → o ≡ None → P
some_none o x e f = let bad : Some x ≡ None = sym e ∙ f in absurd cc

pub some_same : {A : Type 0} (o : Option A) (x y : A) → o ≡ Some x → o ≡ Some y → x ≡ y
some_same o x y e f = let both : Some x ≡ Some y = sym e ∙ f in cc

pub or-true : (a : Bool) → (a || true) ≡ true
or-true true = refl
or-true false = refl

pub true_false : {P : Type 0} (b : Bool) → b ≡ true → b ≡ false → P
true_false b e f = let bad : true ≡ false = sym e ∙ f in absurd cc

-- a state among the columns is in one
among-held : (s : ℕ) (cs : List (List ℕ)) → is_among s cs ≡ true → (n : ℕ) × (is_in s (get_or cs n []) ≡ true)
among-held s [] e = absurd cc
among-held s (c ∷ cs) e = elim (or_cases (is_in s c) (is_among s cs) e) [
  | inl here ↦ (zero, here)
  | inr later ↦ (let rest = among-held s cs later in (suc rest.0, rest.1))
]

pub held-among : (s n : ℕ) (cs : List (List ℕ)) → is_in s (get_or cs n []) ≡ true → is_among s cs ≡ true
held-among s n [] e = absurd cc
held-among s zero (c ∷ cs) e = ap (λ (b : Bool). b || is_among s cs) e
held-among s (suc n) (c ∷ cs) e = ap (λ (b : Bool). is_in s c || b) (held-among s n cs e) ∙ or-true (is_in s c)

-- what a list ends with is in it
ends-in : (d : ℕ) (xs : List ℕ) → ends_with d xs ≡ true → is_in d xs ≡ true
ends-in d xs e = go xs (length xs - 1) e
  where
    go : (xs : List ℕ) (i : ℕ) → is_found d (slice_get xs i) ≡ true → is_in d xs ≡ true
    go [] i e = absurd cc
    go (x ∷ xs) zero e = ap (λ (b : Bool). b || is_in d xs) e
    go (x ∷ xs) (suc i) e = ap (λ (b : Bool). nat_eq x d || b) (go xs i e) ∙ or-true (nat_eq x d)

-- a state of one node is of no other
one_node : (states : List (Option KnownView)) (m n s : ℕ) → IsStateOf states m s → IsStateOf states n s → m ≡ n
one_node states m n s a b = sym a.2 ∙ (ap (λ (x : KnownView). x.node) (some_same (at states s) a.0 b.0 a.1 b.1) ∙ b.2)

shown_there : (st : List (Option Held)) (k : ℕ) (x : Held) → at st k ≡ Some x → at (shown st) k ≡ Some x.known
shown_there st k x e = at-shown st k ∙ ap (option_map known_of) e

-- a state among a dstate's columns is in the column of its node
pub among-holds : (nodes : ℕ) (st : List (Option Held)) (ps : List ℕ) (p : PlaceView) (s : ℕ) (x : Held) → IsPlace nodes (shown st) ps p → at st s ≡ Some x → is_among s p.columns ≡ true → holds x.known.node s p ≡ true
among-holds nodes st ps p s x is there e =
    let n = among-held s p.columns e in
    let node = one_node (shown st) n.0 x.known.node s (held_known nodes (shown st) ps n.0 s p is n.1) (x.known, shown_there st s x there, refl) in
    subst (λ (m : ℕ). holds m s p ≡ true) node n.1

module _ (nodes : ℕ) (ds new : List (Option PlaceView)) (st later : List (Option Held)) (rows : List Row) (ps : List ℕ) (p : PlaceView) (d : ℕ) (g : IsGraph nodes ds st rows ps)
    (fits : IsPlace nodes (shown st) ps p) (free : at ds d ≡ None) (there : at new d ≡ Some p) (same : (k : ℕ) → k ≢ d → at new k ≡ at ds k)
    (told_of : Became (noted_slot d) (λ k. is_among k p.columns) st later) (seen : shown later ≡ shown st) where
  kept : (e : ℕ) (q : PlaceView) → at ds e ≡ Some q → at new e ≡ Some q
  kept e q is = same e (λ at_d. some_none (at ds e) q is (ap (at ds) at_d ∙ free)) ∙ is

  held_on : (n s e : ℕ) → IsHeld ds n s e → IsHeld new n s e
  held_on n s e h = (h.0, kept e h.0 h.1, h.2)

  held_by : (n s e : ℕ) → IsHeld new n s e → (IsHeld ds n s e) ⊎ ((e ≡ d) × (holds n s p ≡ true))
  held_by n s e h = elim (same_or e d) [
    | inl here ↦ inr (here, subst (λ (q : PlaceView). holds n s q ≡ true) (some_same (at new d) h.0 p (ap (at new) (sym here) ∙ h.1) there) h.2)
    | inr other ↦ inl (h.0, sym (same e other) ∙ h.1, h.2)
  ]

  put_places : (e : ℕ) (q : PlaceView) → at new e ≡ Some q → IsPlace nodes (shown later) ps q
  put_places e q is = subst (λ (l : List (Option KnownView)). IsPlace nodes l ps q) (sym seen) (elim (same_or e d) [
    | inl here ↦ subst (IsPlace nodes (shown st) ps) (some_same (at new d) p q there (ap (at new) (sym here) ∙ is)) fits
    | inr other ↦ g.places e q (sym (same e other) ∙ is)
  ])

  unknown : (s : ℕ) (x : Held) → at st s ≡ Some x → (b : Bool) → is_in d x.dstates ≡ b → b ≡ false
  unknown s x is false e = refl
  unknown s x is true e = let h = (g.known s x is).has d e in some_none (at ds d) h.0 h.1 free

  taken : (s : ℕ) (x : Held) → at st s ≡ Some x → is_among s p.columns ≡ true → IsKnown nodes new (told rows) s (record x { dstates = x.dstates ++ d ∷ [] })
  taken s x is e =
      let old = g.known s x is in
      let none = unknown s x is (is_in d x.dstates) refl in
      let here = among-holds nodes st ps p s x fits is e in
      record {
        node = old.node;
        history = old.history;
        once = λ y. let low = old.once y in elim (same_or y d) [
          | inl at_d ↦ (let nothing : times y x.dstates ≡ 0 = ap (λ (j : ℕ). times j x.dstates) at_d ∙ times-none d x.dstates none in let one = at_most (nat_eq d y) in omega (arith, nothing, one, times-append y x.dstates (d ∷ [])))
          | inr other ↦ (let no_more = zero_of (nat_eq d y) (λ e. other (sym (eqb-true d y e))) in omega (arith, low, no_more, times-append y x.dstates (d ∷ [])))
        ];
        has = λ k inside. elim (or_cases (is_in k x.dstates) (nat_eq d k) (sym (is_in-append k x.dstates (d ∷ []) ∙ ap (λ (b : Bool). is_in k x.dstates || b) (or-false (nat_eq d k))) ∙ inside)) [
          | inl before ↦ held_on x.known.node s k (old.has k before)
          | inr now ↦ subst (IsHeld new x.known.node s) (eqb-true d k now) (p, there, here)
        ];
        knows = λ k h. is_in-append k x.dstates (d ∷ []) ∙ elim (held_by x.known.node s k h) [
          | inl before ↦ ap (λ (b : Bool). b || (nat_eq d k || false)) (old.knows k before)
          | inr now ↦ ap (λ (b : Bool). is_in k x.dstates || (b || false)) (eq-eqb d k (sym now.0)) ∙ or-true (is_in k x.dstates)
        ];
      }
    where
      at_most : (b : Bool) → cond b 1 0 < 2
      at_most true = omega arith
      at_most false = omega arith

      zero_of : (b : Bool) → (b ≡ true → ⊥) → ◌≡◌ {A = ℕ} (cond b 1 0) 0
      zero_of true bad = absurd (bad refl)
      zero_of false bad = refl

  untouched : (s : ℕ) (x : Held) → at st s ≡ Some x → is_among s p.columns ≡ false → IsKnown nodes new (told rows) s x
  untouched s x is e = let old = g.known s x is in record {
    node = old.node;
    history = old.history;
    once = old.once;
    has = λ k inside. held_on x.known.node s k (old.has k inside);
    knows = λ k h. elim (held_by x.known.node s k h) [
      | inl before ↦ old.knows k before
      | inr now ↦ true_false (is_among s p.columns) (held-among s x.known.node p.columns now.1) e
    ];
  }

  put_known : (s : ℕ) (y : Held) → at later s ≡ Some y → IsKnown nodes new (told rows) s y
  put_known s y is = go (at st s) refl (is_among s p.columns) refl
    where
      noted_is : (x : Held) → at st s ≡ Some x → noted d x ≡ record x { dstates = x.dstates ++ d ∷ [] }
      noted_is x here = by (ends_with d x.dstates) refl
        where
          by : (b : Bool) → ends_with d x.dstates ≡ b → cond b x (record x { dstates = x.dstates ++ d ∷ [] }) ≡ record x { dstates = x.dstates ++ d ∷ [] }
          by false e = refl
          by true e = true_false (is_in d x.dstates) (ends-in d x.dstates e) (unknown s x here (is_in d x.dstates) refl)

      go : (o : Option Held) → at st s ≡ o → (b : Bool) → is_among s p.columns ≡ b → IsKnown nodes new (told rows) s y
      go None here b e =
          let now : at later s ≡ None = told_of s ∙ (ap (λ (o : Option Held). cond (is_among s p.columns) (noted_slot d o) o) here ∙ neither (is_among s p.columns)) in some_none (at later s) y is now
        where
          neither : (b : Bool) → cond b (noted_slot d None) None ≡ None
          neither true = refl
          neither false = refl
      go (Some x) here true e =
          let now : at later s ≡ Some (noted d x) = told_of s ∙ (ap (λ (b : Bool). cond b (noted_slot d (at st s)) (at st s)) e ∙ ap (noted_slot d) here) in
          subst (IsKnown nodes new (told rows) s) (sym (noted_is x here) ∙ some_same (at later s) (noted d x) y now is) (taken s x here e)
      go (Some x) here false e =
          let now : at later s ≡ Some x = told_of s ∙ (ap (λ (b : Bool). cond b (noted_slot d (at st s)) (at st s)) e ∙ here) in
          subst (IsKnown nodes new (told rows) s) (some_same (at later s) x y now is) (untouched s x here e)

  -- a dstate came
  pub IsGraph-put : IsGraph nodes new later rows ps
  IsGraph-put = record { places = put_places; known = put_known; table = g.table }

-- what is left of a list
pub in-others : (e d : ℕ) (xs : List ℕ) → is_in e (others d xs) ≡ true → (is_in e xs ≡ true) × (e ≢ d)
in-others e d [] h = absurd cc
in-others e d (x ∷ xs) h = go (nat_eq x d) refl h (λ later. in-others e d xs later)
  where
    more : (is_in e xs ≡ true) × (e ≢ d) → (is_in e (x ∷ xs) ≡ true) × (e ≢ d)
    more rest = (ap (λ (b : Bool). nat_eq x e || b) rest.0 ∙ or-true (nat_eq x e), rest.1)

    go : (b : Bool) → nat_eq x d ≡ b → is_in e (cond (not b) (x ∷ others d xs) (others d xs)) ≡ true → (is_in e (others d xs) ≡ true → (is_in e xs ≡ true) × (e ≢ d)) → (is_in e (x ∷ xs) ≡ true) × (e ≢ d)
    go true is h rest = more (rest h)
    go false is h rest = elim (or_cases (nat_eq x e) (is_in e (others d xs)) h) [
      | inl here ↦ (ap (λ (b : Bool). b || is_in e xs) here, λ same. true_false (nat_eq x d) (eq-eqb x d (eqb-true x e here ∙ same)) is)
      | inr later ↦ more (rest later)
    ]

pub others-in : (e d : ℕ) (xs : List ℕ) → is_in e xs ≡ true → e ≢ d → is_in e (others d xs) ≡ true
others-in e d [] h ne = absurd cc
others-in e d (x ∷ xs) h ne = go (nat_eq x d) refl (λ later. others-in e d xs later ne)
  where
    go : (b : Bool) → nat_eq x d ≡ b → (is_in e xs ≡ true → is_in e (others d xs) ≡ true) → is_in e (cond (not b) (x ∷ others d xs) (others d xs)) ≡ true
    go true is rest = elim (or_cases (nat_eq x e) (is_in e xs) h) [
      | inl here ↦ absurd (ne (sym (eqb-true x e here) ∙ eqb-true x d is))
      | inr later ↦ rest later
    ]
    go false is rest = elim (or_cases (nat_eq x e) (is_in e xs) h) [
      | inl here ↦ ap (λ (b : Bool). b || is_in e (others d xs)) here
      | inr later ↦ ap (λ (b : Bool). nat_eq x e || b) (rest later) ∙ or-true (nat_eq x e)
    ]

pub times-others : (y d : ℕ) (xs : List ℕ) → times y (others d xs) < times y xs + 1
times-others y d [] = omega arith
times-others y d (x ∷ xs) = go (nat_eq x d) (times-others y d xs)
  where
    go : (b : Bool) → times y (others d xs) < times y xs + 1 → times y (cond (not b) (x ∷ others d xs) (others d xs)) < (cond (nat_eq x y) 1 0 + times y xs) + 1
    go true low = omega (arith, low)
    go false low = omega (arith, low)

pub others-same : (d : ℕ) (xs : List ℕ) → is_in d xs ≡ false → others d xs ≡ xs
others-same d [] e = refl
others-same d (x ∷ xs) e = go (nat_eq x d) e (others-same d xs)
  where
    go : (b : Bool) → (b || is_in d xs) ≡ false → (is_in d xs ≡ false → others d xs ≡ xs) → cond (not b) (x ∷ others d xs) (others d xs) ≡ x ∷ xs
    go true e rest = absurd cc
    go false e rest = ap (λ (l : List ℕ). x ∷ l) (rest e)

-- a state that another dstate has stays
left-stays : (d e : ℕ) (x : Held) → is_in e x.dstates ≡ true → e ≢ d → (y : Held) × (left_slot d (Some x) ≡ Some y) × (y.known ≡ x.known)
left-stays d e x inside ne = go (is_in d x.dstates)
  where
    filled : (xs : List ℕ) → is_in e xs ≡ true → is_nothing xs ≡ false
    filled [] h = absurd cc
    filled (z ∷ zs) h = refl

    go : (b : Bool) → (y : Held) × (cond b (unless_idle (forgot d x)) (Some x) ≡ Some y) × (y.known ≡ x.known)
    go false = (x, refl, refl)
    go true = (forgot d x, ap (λ (b : Bool). cond (b && not x.known.pinned) None (Some (forgot d x))) (filled (others d x.dstates) (others-in e d x.dstates inside ne)), refl)

-- what stays is as it was, but for the dstate
left-shape : (d : ℕ) (x y : Held) → left_slot d (Some x) ≡ Some y → (y.known ≡ x.known) × (y.dstates ≡ others d x.dstates)
left-shape d x y e = go (is_in d x.dstates) refl e
  where
    idle : (b : Bool) → cond b None (Some (forgot d x)) ≡ Some y → (y.known ≡ x.known) × (y.dstates ≡ others d x.dstates)
    idle true e = absurd cc
    idle false e = let same : forgot d x ≡ y = cc in (ap (λ (z : Held). z.known) (sym same), ap (λ (z : Held). z.dstates) (sym same))

    go : (b : Bool) → is_in d x.dstates ≡ b → cond b (unless_idle (forgot d x)) (Some x) ≡ Some y → (y.known ≡ x.known) × (y.dstates ≡ others d x.dstates)
    go true is e = idle (is_idle (forgot d x)) e
    go false is e = let same : x ≡ y = cc in (ap (λ (z : Held). z.known) (sym same), ap (λ (z : Held). z.dstates) (sym same) ∙ sym (others-same d x.dstates is))

-- what becomes of a state where dstate d changes: it leaves d, or it is in d as before
abbrev pub Leaves : List (Option PlaceView) → List (Option Held) → List (Option Held) → ℕ → ℕ → Type 0
Leaves new st later d k = (at later k ≡ left_slot d (at st k)) × ((n : ℕ) → IsHeld new n k d → ⊥)

abbrev pub Keeps : List (Option PlaceView) → List (Option PlaceView) → List (Option Held) → List (Option Held) → ℕ → ℕ → Type 0
Keeps ds new st later d k = (at later k ≡ at st k) × ((n : ℕ) → IsHeld ds n k d → IsHeld new n k d) × ((n : ℕ) → IsHeld new n k d → IsHeld ds n k d)

module _ (nodes : ℕ) (ds new : List (Option PlaceView)) (st later : List (Option Held)) (rows : List Row) (ps : List ℕ) (d : ℕ) (g : IsGraph nodes ds st rows ps)
    (same : (k : ℕ) → k ≢ d → at new k ≡ at ds k) (each : (k : ℕ) → Leaves new st later d k ⊎ Keeps ds new st later d k) (at_d : (q : PlaceView) → at new d ≡ Some q → IsPlace nodes (shown later) ps q) where
  still_known : (n k e : ℕ) → IsHeld ds n k e → e ≢ d → IsStateOf (shown st) n k → IsStateOf (shown later) n k
  still_known n k e held ne was = go (at st k) refl
    where
      go : (o : Option Held) → at st k ≡ o → IsStateOf (shown later) n k
      go None is = some_none (at (shown st) k) was.0 was.1 (at-shown st k ∙ ap (option_map known_of) is)
      go (Some x) is =
          let node : x.known.node ≡ n = ap (λ (v : KnownView). v.node) (some_same (at (shown st) k) x.known was.0 (shown_there st k x is) was.1) ∙ was.2 in
          let inside = (g.known k x is).knows e (subst (λ (m : ℕ). IsHeld ds m k e) (sym node) held) in
          elim (each k) [
            | inl leaves ↦ (let stays = left-stays d e x inside ne in (stays.0.known, shown_there later k stays.0 (leaves.0 ∙ (ap (left_slot d) is ∙ stays.1)), ap (λ (v : KnownView). v.node) stays.2 ∙ node))
            | inr keeps ↦ (x.known, shown_there later k x (keeps.0 ∙ is), node)
          ]

  left_places : (e : ℕ) (q : PlaceView) → at new e ≡ Some q → IsPlace nodes (shown later) ps q
  left_places e q is = elim (same_or e d) [
    | inl here ↦ at_d q (ap (at new) (sym here) ∙ is)
    | inr other ↦
        (let was : at ds e ≡ Some q = sym (same e other) ∙ is in
        let old = g.places e q was in
        record {
          columns_many = old.columns_many;
          inboxes_many = old.inboxes_many;
          columns = λ n c there. let col = old.columns n c there in record {
            some = col.some;
            once = col.once;
            known = λ k inside. still_known n k e (q, was, ap (is_in k) (get_or_from_slice_get q.columns n c [] there) ∙ inside) other (col.known k inside);
          };
          inboxes = old.inboxes;
        })
  ]

  moved : (n k e : ℕ) → e ≢ d → IsHeld ds n k e → IsHeld new n k e
  moved n k e ne h = (h.0, same e ne ∙ h.1, h.2)

  back : (n k e : ℕ) → e ≢ d → IsHeld new n k e → IsHeld ds n k e
  back n k e ne h = (h.0, sym (same e ne) ∙ h.1, h.2)

  left_one : (k : ℕ) (x y : Held) → at st k ≡ Some x → (y.known ≡ x.known) × (y.dstates ≡ others d x.dstates) → ((n : ℕ) → IsHeld new n k d → ⊥) → IsKnown nodes new (told rows) k y
  left_one k x y is shape apart =
      let old = g.known k x is in
      let node : y.known.node ≡ x.known.node = ap (λ (v : KnownView). v.node) shape.0 in
      record {
        node = subst (λ (m : ℕ). m < nodes) (sym node) old.node;
        history = subst (λ (v : KnownView). IsHistoryOf (told rows) v.node v.history) (sym shape.0) old.history;
        once = λ z. let low = old.once z in omega (arith, low, times-others z d x.dstates, ap (times z) shape.1);
        has = λ e inside. let was = in-others e d x.dstates (ap (is_in e) (sym shape.1) ∙ inside) in subst (λ (m : ℕ). IsHeld new m k e) (sym node) (moved x.known.node k e was.1 (old.has e was.0));
        knows = λ e h. elim (same_or e d) [
          | inl here ↦ absurd (apart y.known.node (subst (IsHeld new y.known.node k) here h))
          | inr other ↦ ap (is_in e) shape.1 ∙ others-in e d x.dstates (old.knows e (subst (λ (m : ℕ). IsHeld ds m k e) node (back y.known.node k e other h))) other
        ];
      }

  kept_one : (k : ℕ) (x : Held) → at st k ≡ Some x → ((n : ℕ) → IsHeld ds n k d → IsHeld new n k d) → ((n : ℕ) → IsHeld new n k d → IsHeld ds n k d) → IsKnown nodes new (told rows) k x
  kept_one k x is on off = let old = g.known k x is in record {
    node = old.node;
    history = old.history;
    once = old.once;
    has = λ e inside. let h = old.has e inside in elim (same_or e d) [
      | inl here ↦ subst (IsHeld new x.known.node k) (sym here) (on x.known.node (subst (IsHeld ds x.known.node k) here h))
      | inr other ↦ moved x.known.node k e other h
    ];
    knows = λ e h. elim (same_or e d) [
      | inl here ↦ old.knows e (subst (IsHeld ds x.known.node k) (sym here) (off x.known.node (subst (IsHeld new x.known.node k) here h)))
      | inr other ↦ old.knows e (back x.known.node k e other h)
    ];
  }

  left_known : (k : ℕ) (y : Held) → at later k ≡ Some y → IsKnown nodes new (told rows) k y
  left_known k y is = go (at st k) refl
    where
      go : (o : Option Held) → at st k ≡ o → IsKnown nodes new (told rows) k y
      go None was = elim (each k) [
        | inl leaves ↦ some_none (at later k) y is (leaves.0 ∙ ap (left_slot d) was)
        | inr keeps ↦ some_none (at later k) y is (keeps.0 ∙ was)
      ]
      go (Some x) was = elim (each k) [
        | inl leaves ↦ left_one k x y was (left-shape d x y (sym (leaves.0 ∙ ap (left_slot d) was) ∙ is)) leaves.1
        | inr keeps ↦ subst (IsKnown nodes new (told rows) k) (some_same (at later k) x y (keeps.0 ∙ was) is) (kept_one k x was keeps.1 keeps.2)
      ]

  -- a dstate went, or states left it
  pub IsGraph-left : IsGraph nodes new later rows ps
  IsGraph-left = record { places = left_places; known = left_known; table = g.table }

-- a dstate went
pub IsGraph-taken : (nodes : ℕ) (ds new : List (Option PlaceView)) (st later : List (Option Held)) (rows : List Row) (ps : List ℕ) (d : ℕ) → Became emptied (λ k. nat_eq d k) ds new → Became (left_slot d) (λ k. is_among k (columns_of (at ds d))) st later
    → IsGraph nodes ds st rows ps → IsGraph nodes new later rows ps
IsGraph-taken nodes ds new st later rows ps d gone left g =
    let none : at new d ≡ None = gone d ∙ ap (λ (b : Bool). cond b None (at ds d)) (eq-eqb d d refl) in
    IsGraph-left nodes ds new st later rows ps d g (λ k ne. gone k ∙ ap (λ (b : Bool). cond b None (at ds k)) (unequal k ne)) (λ k. inl (left k ∙ slot k (is_among k (columns_of (at ds d))) refl, λ n h. some_none (at new d) h.0 h.1 none)) (λ q is. some_none (at new d) q is none)
  where
    unequal : (k : ℕ) → k ≢ d → nat_eq d k ≡ false
    unequal k ne = un (nat_eq d k) refl
      where
        un : (t : Bool) → nat_eq d k ≡ t → t ≡ false
        un false e = refl
        un true e = absurd (ne (sym (eqb-true d k e)))

    slot : (k : ℕ) (b : Bool) → is_among k (columns_of (at ds d)) ≡ b → cond b (left_slot d (at st k)) (at st k) ≡ left_slot d (at st k)
    slot k true e = refl
    slot k false e = go (at st k) refl
      where
        inside : (x : Held) → at st k ≡ Some x → (b : Bool) → is_in d x.dstates ≡ b → Some x ≡ cond b (unless_idle (forgot d x)) (Some x)
        inside x is false f = refl
        inside x is true f =
            let h = (g.known k x is).has d f in
            let among : is_among k (columns_of (at ds d)) ≡ true = ap (λ (o : Option PlaceView). is_among k (columns_of o)) h.1 ∙ held-among k x.known.node h.0.columns h.2 in
            true_false (is_among k (columns_of (at ds d))) among e

        go : (o : Option Held) → at st k ≡ o → o ≡ left_slot d o
        go None is = refl
        go (Some x) is = inside x is (is_in d x.dstates) refl

-- what holds of all holds of those in front, and of the last
pub all-front : {A : Type 0} (P : A → Type 0) (xs : List A) (y : A) → AllByRecursion P (xs ++ y ∷ []) → AllByRecursion P xs × P y
all-front P [] y h = (tt, h.0)
all-front P (x ∷ xs) y h = let rest = all-front P xs y h.1 in ((h.0, rest.0), rest.1)

-- room for one number less
room-less : (o : Option Held) (d m : ℕ) (b : Bool) → HasRoom (m + 1) o → HasRoom m (cond b (noted_slot d o) o)
room-less None d m true h = tt
room-less None d m false h = tt
room-less (Some x) d m false h = omega (arith, h)
room-less (Some x) d m true h = go (ends_with d x.dstates)
  where
    go : (b : Bool) → HasRoom m (Some (cond b x (record x { dstates = x.dstates ++ d ∷ [] })))
    go true = omega (arith, h)
    go false = omega (arith, h, length-append x.dstates (d ∷ []))

pub room-noted : (d m : ℕ) (t : ℕ → Bool) (st later : List (Option Held)) (k : ℕ) → Became (noted_slot d) t st later → HasRoom (m + 1) (at st k) → HasRoom m (at later k)
room-noted d m t st later k is h = subst (HasRoom m) (sym (is k)) (room-less (at st k) d m (t k) h)

pub room-fewer : (o : Option Held) (m n : ℕ) → m ≤ n → HasRoom n o → HasRoom m o
room-fewer None m n low h = tt
room-fewer (Some x) m n low h = omega (arith, low, h)

-- a dstate that was there is there still
pub put-kept : (ds new : List (Option PlaceView)) (d e : ℕ) (q : PlaceView) → at ds d ≡ None → ((k : ℕ) → k ≢ d → at new k ≡ at ds k) → at ds e ≡ Some q → at new e ≡ Some q
put-kept ds new d e q free same is = same e (λ at_d. some_none (at ds e) q is (ap (at ds) at_d ∙ free)) ∙ is

-- the states of all have room for so many, so those of the front and of the last have
pub room-last : (st : List (Option Held)) (all front : List PlaceView) (p : PlaceView) (k : ℕ) → all ≡ front ++ p ∷ [] → ((j : ℕ) → is_of_some j all ≡ true → HasRoom (length all) (at st j)) → (is_of_some k front || is_among k p.columns) ≡ true → HasRoom (length front + 1) (at st k)
room-last st all front p k is room e =
    subst (λ (m : ℕ). HasRoom m (at st k)) (ap length is ∙ length-append front (p ∷ [])) (room k (ap (is_of_some k) is ∙ (some_last k front p ∙ e)))

-- all the same but for room
pub bare-same : (st new : List (Option Held)) (k : ℕ) (y : Held) → all_bare new ≡ all_bare st → at new k ≡ Some y → (x : Held) × (at st k ≡ Some x) × (bare x ≡ bare y)
bare-same st new k y is there = go (at st k) refl
  where
    both : option_map bare (at st k) ≡ Some (bare y)
    both = sym (at-bare st k) ∙ (ap (λ (l : List (Option Held)). at l k) (sym is) ∙ (at-bare new k ∙ ap (option_map bare) there))

    go : (o : Option Held) → at st k ≡ o → (x : Held) × (at st k ≡ Some x) × (bare x ≡ bare y)
    go None e = let bad : None ≡ Some (bare y) = ap (option_map bare) (sym e) ∙ both in absurd cc
    go (Some x) e = let same : Some (bare x) ≡ Some (bare y) = ap (option_map bare) (sym e) ∙ both in (x, e, cc)

pub IsGraph-bare : (nodes : ℕ) (ds : List (Option PlaceView)) (st new : List (Option Held)) (rows : List Row) (ps : List ℕ) → all_bare new ≡ all_bare st → shown new ≡ shown st → IsGraph nodes ds st rows ps → IsGraph nodes ds new rows ps
IsGraph-bare nodes ds st new rows ps is seen g = record {
  places = λ d p e. subst (λ (l : List (Option KnownView)). IsPlace nodes l ps p) (sym seen) (g.places d p e);
  known = λ s y e.
      let was = bare-same st new s y is e in
      let old = g.known s was.0 was.1 in
      let known : was.0.known ≡ y.known = ap (λ (x : Held). x.known) was.2 in
      let same : was.0.dstates ≡ y.dstates = ap (λ (x : Held). x.dstates) was.2 in
      let node : was.0.known.node ≡ y.known.node = ap (λ (v : KnownView). v.node) known in
      record {
        node = subst (λ (m : ℕ). m < nodes) node old.node;
        history = subst (λ (v : KnownView). IsHistoryOf (told rows) v.node v.history) known old.history;
        once = subst AreDistinct same old.once;
        has = λ d inside. subst (λ (m : ℕ). IsHeld ds m s d) node (old.has d (ap (is_in d) same ∙ inside));
        knows = λ d h. ap (is_in d) (sym same) ∙ old.knows d (subst (λ (m : ℕ). IsHeld ds m s d) (sym node) h);
      };
  table = g.table;
}

shown-bare : (xs : List (Option Held)) → shown (all_bare xs) ≡ shown xs
shown-bare [] = refl
shown-bare (None ∷ xs) = ap (λ (l : List (Option KnownView)). None ∷ l) (shown-bare xs)
shown-bare (Some x ∷ xs) = ap (λ (l : List (Option KnownView)). Some x.known ∷ l) (shown-bare xs)

pub seen-bare : (st new : List (Option Held)) → all_bare new ≡ all_bare st → shown new ≡ shown st
seen-bare st new is = sym (shown-bare new) ∙ (ap shown is ∙ shown-bare st)
