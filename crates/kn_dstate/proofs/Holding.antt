-- What holds of a graph, new and changed.
use Rattle.std.proofs.Common.{◌≡◌, ◌≢◌, ℕ, zero, suc, ◌+◌, ◌<◌, ◌≤◌, Bool, true, false, cond, List, [], ◌∷◌, ◌++◌, length, map, get_or, refl, ap, subst, sym, ◌∙◌, arith, Some, None, Option, inl, inr, below_more, IsTrue, eq-eqb}
use Rattle.std.specs.Prelude.{slice_get, slice_set, ◌⊎◌, IsSome, option_map, unwrap_or, is_some, ◌||◌, ◌↔◌, nat_eq}
use Rattle.std.proofs.lemmas.Bool.{eqb-true}
use Rattle.std.proofs.lemmas.List.{map-append, length-map}
use Rattle.std.proofs.lemmas.Option.{slice_get_within, get_or_from_slice_get}
use Rattle.kn_built.specs.Built.{Extends}
use Rattle.kn_packet.specs.Histories.{Done, followed}
use Rattle.kn_dstate.specs.declared.row.Entry.{Entry}
use Rattle.kn_dstate.specs.declared.row.Row.{Row}
use Rattle.kn_dstate.specs.Histories.{told, history_in, entries_history, IsHistoryOf, IsTable}
use Rattle.kn_dstate.specs.Places.{PlaceView, is_in, holds, AreDistinct}
use Rattle.kn_dstate.specs.Graphs.{KnownView, GraphView, at, state, with_state, IsHeld, IsPlaced, IsTarget, IsLowest, NoneFrom, IsOpened, HasNew, Held, first_state, known_of, shown, with_pin, IsStateOf, IsColumn, IsInbox, IsPlace, IsKnown, IsGraph}
use Rattle.kn_dstate.specs.Gathered.{gathered}
use Rattle.kn_dstate.proofs.Gathering.{gathered-held, held-gathered}
use Rattle.kn_dstate.proofs.Growing.{get_left, get_last, IsHistoryOf-grown}

-- a list of lists with one more
pub grown_each : {V : Type 0} (f : V → List ℕ) (xs ys : List V) (v : V) (i : ℕ) (w : ℕ → List ℕ) → ys ≡ xs ++ v ∷ [] → length xs ≡ i → f v ≡ w i
    → ((n : ℕ) → n < i → slice_get (map f xs) n ≡ Some (w n)) → (n : ℕ) → n < i + 1 → slice_get (map f ys) n ≡ Some (w n)
grown_each {V} f xs ys v i w is size last each =
    let more : map f ys ≡ map f xs ++ f v ∷ [] = ap (map f) is ∙ map-append f xs (v ∷ []) in
    let kept : (n : ℕ) → n < i → slice_get (map f ys) n ≡ Some (w n) = λ n low. subst (λ (l : List (List ℕ)). slice_get l n ≡ Some (w n)) (sym more) (get_left (map f xs) (f v ∷ []) n (w n) (each n low)) in
    let here : slice_get (map f ys) i ≡ Some (w i) = subst (λ (l : List (List ℕ)). slice_get l i ≡ Some (w i)) (sym more) (get_last (map f xs) (f v) i (sym (length-map xs f ∙ size)) ∙ ap Some last) in
    below_more (λ n. slice_get (map f ys) n ≡ Some (w n)) i kept here

-- a slot of what is seen of all states
pub at-shown : (xs : List (Option Held)) (k : ℕ) → at (shown xs) k ≡ option_map known_of (at xs k)
at-shown [] k = refl
at-shown (x ∷ xs) zero = refl
at-shown (x ∷ xs) (suc k) = at-shown xs k

either : (b : Bool) → (b || false) ≡ true → b ≡ true
either true e = refl
either false e = e

in_one : (s n : ℕ) → is_in s (n ∷ []) ≡ true → s ≡ n
in_one s n e = sym (eqb-true n s (either (nat_eq n s) e))

one_in : (n : ℕ) → is_in n (n ∷ []) ≡ true
one_in n = rw (eq-eqb n n refl) refl

once_one : (n : ℕ) → AreDistinct (n ∷ [])
once_one n x = go (nat_eq n x)
  where
    go : (b : Bool) → cond b 1 0 + 0 < 2
    go true = omega arith
    go false = omega arith

some_none : {A : Type 0} {P : Type 0} (o : Option A) (x : A) → o ≡ Some x → o ≡ None → P
some_none o x e f = let bad : Some x ≡ None = sym e ∙ f in absurd cc

some_same : {A : Type 0} (o : Option A) (x y : A) → o ≡ Some x → o ≡ Some y → x ≡ y
some_same o x y e f = let both : Some x ≡ Some y = sym e ∙ f in cc

-- what is known of a new graph's dstates
pub record OpenDstates (nodes : ℕ) (ds : List (Option PlaceView)) : Type 0 where
  pub columns_many : (p : PlaceView) → at ds 0 ≡ Some p → length p.columns ≡ nodes
  pub inboxes_many : (p : PlaceView) → at ds 0 ≡ Some p → length p.inboxes ≡ nodes
  pub columns : (p : PlaceView) → at ds 0 ≡ Some p → (n : ℕ) → n < nodes → slice_get p.columns n ≡ Some (n ∷ [])
  pub inboxes : (p : PlaceView) → at ds 0 ≡ Some p → (n : ℕ) → n < nodes → slice_get p.inboxes n ≡ Some []
  pub one : (p : PlaceView) × (at ds 0 ≡ Some p)
  pub only : (d : ℕ) → 0 < d → at ds d ≡ None

-- of its states
pub record OpenStates (nodes : ℕ) (st : List (Option Held)) : Type 0 where
  pub each : (n : ℕ) → n < nodes → (capacity : ℕ) × (at st n ≡ Some (first_state n capacity))
  pub none : (n : ℕ) → nodes ≤ n → at st n ≡ None

-- and of its histories
pub record OpenRows (nodes : ℕ) (rows : List Row) : Type 0 where
  pub table : IsTable rows
  pub many : length (told rows) ≡ nodes
  pub each : (n : ℕ) → n < nodes → slice_get (told rows) n ≡ Some (record { node = n; history = Done })

module _ (nodes : ℕ) (ds : List (Option PlaceView)) (st : List (Option Held)) (rows : List Row) (d0 : OpenDstates nodes ds) (s0 : OpenStates nodes st) (r0 : OpenRows nodes rows) where
  zeroth : (d : ℕ) (p : PlaceView) → at ds d ≡ Some p → d ≡ 0
  zeroth zero p e = refl
  zeroth (suc d) p e = some_none (at ds (suc d)) p e (d0.only (suc d) (omega arith))

  first_column : (p : PlaceView) → at ds 0 ≡ Some p → (n : ℕ) (c : List ℕ) → slice_get p.columns n ≡ Some c → IsColumn (shown st) n c
  first_column p e n c is =
      let low : n < nodes = omega (arith, slice_get_within p.columns n c is, d0.columns_many p e) in
      let same : n ∷ [] ≡ c = some_same (slice_get p.columns n) (n ∷ []) c (d0.columns p e n low) is in
      subst (IsColumn (shown st) n) same (record {
        some = omega arith;
        once = once_one n;
        known = λ s there. let is = s0.each n low in ((first_state n is.0).known, at-shown st s ∙ ap (option_map known_of) (ap (at st) (in_one s n there) ∙ is.1), refl);
      })

  first_inbox : (p : PlaceView) → at ds 0 ≡ Some p → (n : ℕ) (b : List ℕ) → slice_get p.inboxes n ≡ Some b → IsInbox [] n b
  first_inbox p e n b is =
      let low : n < nodes = omega (arith, slice_get_within p.inboxes n b is, d0.inboxes_many p e) in
      let same : [] ≡ b = some_same (slice_get p.inboxes n) [] b (d0.inboxes p e n low) is in
      subst (IsInbox [] n) same (record { rise = tt; sent = λ k there. absurd cc })

  first_place : (p : PlaceView) → at ds 0 ≡ Some p → IsPlace nodes (shown st) [] p
  first_place p e = record { columns_many = d0.columns_many p e; inboxes_many = d0.inboxes_many p e; columns = first_column p e; inboxes = first_inbox p e }

  first_held : (n : ℕ) → n < nodes → IsHeld ds n n 0
  first_held n low =
      let p = d0.one.0 in
      let there : get_or p.columns n [] ≡ n ∷ [] = get_or_from_slice_get p.columns n (n ∷ []) [] (d0.columns p d0.one.1 n low) in
      (p, d0.one.1, ap (is_in n) there ∙ one_in n)

  first_known : (s capacity : ℕ) → s < nodes → IsKnown nodes ds (told rows) s (first_state s capacity)
  first_known s capacity low = record {
    node = low;
    history = (Done, r0.each s low);
    once = once_one 0;
    has = λ d there. subst (IsHeld ds s s) (sym (in_one d 0 there)) (first_held s low);
    knows = λ d held. ap (λ (k : ℕ). is_in k (0 ∷ [])) (zeroth d held.0 held.1);
  }

  below : (s : ℕ) (x : Held) → at st s ≡ Some x → s < nodes
  below s x e = let high : nodes ≤ s → ⊥ = λ h. some_none (at st s) x e (s0.none s h) in omega (arith, high)

  pub opened_graph : IsGraph nodes ds st rows []
  opened_graph = record {
    places = λ d p e. first_place p (ap (at ds) (sym (zeroth d p e)) ∙ e);
    known = λ s x e. let low = below s x e in let is = s0.each s low in subst (IsKnown nodes ds (told rows) s) (some_same (at st s) (first_state s is.0) x is.1 e) (first_known s is.0 low);
    table = r0.table;
  }

  pub opened_view : IsOpened nodes (record { nodes = nodes; dstates = ds; states = shown st; histories = told rows; packets = [] })
  opened_view =
      let p = d0.one.0 in
      let is : unwrap_or (at ds 0) (record { columns = []; inboxes = [] }) ≡ p = ap (λ (o : Option PlaceView). unwrap_or o (record { columns = []; inboxes = [] })) d0.one.1 in
      record {
        nodes_are = refl;
        columns = λ n low. ap (λ (q : PlaceView). slice_get q.columns n) is ∙ d0.columns p d0.one.1 n low;
        inboxes = λ n low. ap (λ (q : PlaceView). slice_get q.inboxes n) is ∙ d0.inboxes p d0.one.1 n low;
        columns_many = ap (λ (q : PlaceView). length q.columns) is ∙ d0.columns_many p d0.one.1;
        inboxes_many = ap (λ (q : PlaceView). length q.inboxes) is ∙ d0.inboxes_many p d0.one.1;
        one = subst (λ (o : Option PlaceView). IsSome o) (sym d0.one.1) refl;
        only = d0.only;
        states = λ n low. at-shown st n ∙ ap (option_map known_of) (s0.each n low).1;
        none_else = λ n high. at-shown st n ∙ ap (option_map known_of) (s0.none n high);
        histories = r0.each;
        histories_many = r0.many;
        packets = refl;
      }

-- more packets
pub IsGraph-packet : (nodes : ℕ) (ds : List (Option PlaceView)) (st : List (Option Held)) (rows : List Row) (ps qs more : List ℕ) → IsGraph nodes ds st rows ps → qs ≡ ps ++ more → IsGraph nodes ds st rows qs
IsGraph-packet nodes ds st rows ps qs more g is = record {
  places = λ d p e. let old = g.places d p e in record {
    columns_many = old.columns_many;
    inboxes_many = old.inboxes_many;
    columns = old.columns;
    inboxes = λ n b there. let was = old.inboxes n b there in record {
      rise = was.rise;
      sent = λ k inside. subst (λ (l : List ℕ). slice_get l k ≡ Some n) (sym is) (get_left ps more k n (was.sent k inside));
    };
  };
  known = g.known;
  table = g.table;
}

-- more histories
pub IsGraph-rows : (nodes : ℕ) (ds : List (Option PlaceView)) (st : List (Option Held)) (rows new : List Row) (ps : List ℕ) → IsGraph nodes ds st rows ps → IsTable new → Extends (told rows) (told new) → IsGraph nodes ds st new ps
IsGraph-rows nodes ds st rows new ps g table grows = record {
  places = g.places;
  known = λ s x e. let old = g.known s x e in record { node = old.node; history = IsHistoryOf-grown (told rows) (told new) x.known.node x.known.history grows old.history; once = old.once; has = old.has; knows = old.knows };
  table = table;
}

-- a dstate's states are known
pub held_known : (nodes : ℕ) (st : List (Option KnownView)) (ps : List ℕ) (n s : ℕ) (p : PlaceView) → IsPlace nodes st ps p → holds n s p ≡ true → IsStateOf st n s
held_known nodes st ps n s p is held = (is.columns n (get_or p.columns n []) (there p.columns n held)).known s held
  where
    there : (cs : List (List ℕ)) (n : ℕ) → is_in s (get_or cs n []) ≡ true → slice_get cs n ≡ Some (get_or cs n [])
    there [] n e = absurd cc
    there (c ∷ cs) zero e = refl
    there (c ∷ cs) (suc n) e = there cs n e

pub same_or : (a b : ℕ) → (a ≡ b) ⊎ (a ≢ b)
same_or a b = go (nat_eq a b) refl
  where
    go : (t : Bool) → nat_eq a b ≡ t → (a ≡ b) ⊎ (a ≢ b)
    go true e = inl (eqb-true a b e)
    go false e = inr (λ same. let bad : true ≡ false = sym (eq-eqb a b same) ∙ e in absurd cc)

-- other states, where those in dstates are still of their nodes
pub IsGraph-changed : (nodes : ℕ) (ds : List (Option PlaceView)) (st new : List (Option Held)) (rows : List Row) (ps : List ℕ) → IsGraph nodes ds st rows ps
    → ((n s d : ℕ) → IsHeld ds n s d → IsStateOf (shown st) n s → IsStateOf (shown new) n s) → ((s : ℕ) (x : Held) → at new s ≡ Some x → IsKnown nodes ds (told rows) s x)
    → IsGraph nodes ds new rows ps
IsGraph-changed nodes ds st new rows ps g kept known = record {
  places = λ d p e. let old = g.places d p e in record {
    columns_many = old.columns_many;
    inboxes_many = old.inboxes_many;
    columns = λ n c is. let was = old.columns n c is in record {
      some = was.some;
      once = was.once;
      known = λ s inside. kept n s d (p, e, ap (is_in s) (get_or_from_slice_get p.columns n c [] is) ∙ inside) (was.known s inside);
    };
    inboxes = old.inboxes;
  };
  known = known;
  table = g.table;
}

-- a slot that is seen as it was
shown_other : (st new : List (Option Held)) (k : ℕ) → at new k ≡ at st k → at (shown new) k ≡ at (shown st) k
shown_other st new k same = at-shown new k ∙ (ap (option_map known_of) same ∙ sym (at-shown st k))

shown_there : (st : List (Option Held)) (k : ℕ) (x : Held) → at st k ≡ Some x → at (shown st) k ≡ Some x.known
shown_there st k x e = at-shown st k ∙ ap (option_map known_of) e

-- one state more, in no dstate
pub IsGraph-state : (nodes : ℕ) (ds : List (Option PlaceView)) (st new : List (Option Held)) (rows : List Row) (ps : List ℕ) (s n h capacity : ℕ) → IsGraph nodes ds st rows ps
    → at st s ≡ None → at new s ≡ Some (record { known = record { node = n; history = h; pinned = false }; dstates = []; capacity = capacity }) → ((k : ℕ) → k ≢ s → at new k ≡ at st k) → n < nodes → IsHistoryOf (told rows) n h
    → IsGraph nodes ds new rows ps
IsGraph-state nodes ds st new rows ps s n h capacity g free there others low history =
    let fresh : Held = record { known = record { node = n; history = h; pinned = false }; dstates = []; capacity = capacity } in
    let none : at (shown st) s ≡ None = at-shown st s ∙ ap (option_map known_of) free in
    let known : IsKnown nodes ds (told rows) s fresh = record {
      node = low;
      history = history;
      once = λ x. omega arith;
      has = λ d inside. absurd cc;
      knows = λ d held. let is = held_known nodes (shown st) ps n s held.0 (g.places d held.0 held.1) held.2 in some_none (at (shown st) s) is.0 is.1 none;
    } in
    IsGraph-changed nodes ds st new rows ps g
    (λ m k d held was. (was.0, shown_other st new k (others k (λ same. some_none (at (shown st) k) was.0 was.1 (ap (at (shown st)) same ∙ none))) ∙ was.1, was.2))
    (λ k x e. elim (same_or k s) [
      | inl same ↦ subst (λ (j : ℕ). IsKnown nodes ds (told rows) j x) (sym same) (subst (IsKnown nodes ds (told rows) s) (some_same (at new s) fresh x there (ap (at new) (sym same) ∙ e)) known)
      | inr other ↦ g.known k x (sym (others k other) ∙ e)
    ])

-- a slot that was written
pub at_set : {A : Type 0} (xs : List (Option A)) (s : ℕ) (v : Option A) (x : A) → at xs s ≡ Some x → at (slice_set xs s v) s ≡ v
at_set [] s v x e = absurd cc
at_set (y ∷ xs) zero v x e = refl
at_set (y ∷ xs) (suc s) v x e = at_set xs s v x e

pub at_other : {A : Type 0} (xs : List (Option A)) (s k : ℕ) (v : Option A) → k ≢ s → at (slice_set xs s v) k ≡ at xs k
at_other [] s k v other = refl
at_other (y ∷ xs) zero zero v other = absurd (other refl)
at_other (y ∷ xs) zero (suc k) v other = refl
at_other (y ∷ xs) (suc s) zero v other = refl
at_other (y ∷ xs) (suc s) (suc k) v other = at_other xs s k v (λ e. other (ap suc e))

shown-set : (xs : List (Option Held)) (s : ℕ) (v : Option Held) → shown (slice_set xs s v) ≡ slice_set (shown xs) s (option_map known_of v)
shown-set [] s v = refl
shown-set (x ∷ xs) zero v = refl
shown-set (x ∷ xs) (suc s) v = ap (λ (l : List (Option KnownView)). option_map known_of x ∷ l) (shown-set xs s v)

-- a state that is pinned, or is not any more
pub IsGraph-pinned : (nodes : ℕ) (ds : List (Option PlaceView)) (st : List (Option Held)) (rows : List Row) (ps : List ℕ) (s : ℕ) (x : Held) (b : Bool) → IsGraph nodes ds st rows ps → at st s ≡ Some x
    → IsGraph nodes ds (slice_set st s (Some (with_pin b x))) rows ps
IsGraph-pinned nodes ds st rows ps s x b g there =
    let new : List (Option Held) = slice_set st s (Some (with_pin b x)) in
    let here : at new s ≡ Some (with_pin b x) = at_set st s (Some (with_pin b x)) x there in
    let old = g.known s x there in
    let known : IsKnown nodes ds (told rows) s (with_pin b x) = record { node = old.node; history = old.history; once = old.once; has = old.has; knows = old.knows } in
    IsGraph-changed nodes ds st new rows ps g
    (λ n k d held was. elim (same_or k s) [
      | inl same ↦ ((with_pin b x).known, ap (at (shown new)) same ∙ shown_there new s (with_pin b x) here, ap (λ (v : KnownView). v.node) (some_same (at (shown st) k) x.known was.0 (ap (at (shown st)) same ∙ shown_there st s x there) was.1) ∙ was.2)
      | inr other ↦ (was.0, shown_other st new k (at_other st s k (Some (with_pin b x)) other) ∙ was.1, was.2)
    ])
    (λ k y e. elim (same_or k s) [
      | inl same ↦ subst (λ (j : ℕ). IsKnown nodes ds (told rows) j y) (sym same) (subst (IsKnown nodes ds (told rows) s) (some_same (at new s) (with_pin b x) y here (ap (at new) (sym same) ∙ e)) known)
      | inr other ↦ g.known k y (sym (at_other st s k (Some (with_pin b x)) other) ∙ e)
    ])

-- a state that is in no dstate goes
pub IsGraph-gone : (nodes : ℕ) (ds : List (Option PlaceView)) (st : List (Option Held)) (rows : List Row) (ps : List ℕ) (s : ℕ) (x : Held) → IsGraph nodes ds st rows ps → at st s ≡ Some x → x.dstates ≡ []
    → IsGraph nodes ds (slice_set st s None) rows ps
IsGraph-gone nodes ds st rows ps s x g there none =
    let new : List (Option Held) = slice_set st s None in
    let here : at new s ≡ None = at_set st s None x there in
    IsGraph-changed nodes ds st new rows ps g
    (λ n k d held was. elim (same_or k s) [
      | inl same ↦
          (let node : x.known.node ≡ n = ap (λ (v : KnownView). v.node) (some_same (at (shown st) k) x.known was.0 (ap (at (shown st)) same ∙ shown_there st s x there) was.1) ∙ was.2 in
          let inside : is_in d x.dstates ≡ true = (g.known s x there).knows d (subst (λ (j : ℕ). IsHeld ds x.known.node j d) same (subst (λ (m : ℕ). IsHeld ds m k d) (sym node) held)) in
          let bad : is_in d [] ≡ true = ap (is_in d) (sym none) ∙ inside in absurd cc)
      | inr other ↦ (was.0, shown_other st new k (at_other st s k None other) ∙ was.1, was.2)
    ])
    (λ k y e. elim (same_or k s) [
      | inl same ↦ some_none (at new s) y (ap (at new) (sym same) ∙ e) here
      | inr other ↦ g.known k y (sym (at_other st s k None other) ∙ e)
    ])

-- what is seen of a graph
abbrev pub whole : ℕ → List (Option PlaceView) → List (Option KnownView) → List Row → List ℕ → GraphView
whole nodes ds seen rows ps = record { nodes = nodes; dstates = ds; states = seen; histories = told rows; packets = ps }

-- and of one in which a state's slot was written
pub with_state_seen : (nodes : ℕ) (ds : List (Option PlaceView)) (st : List (Option Held)) (rows : List Row) (ps : List ℕ) (g : GraphView) (s : ℕ) (v : Option Held)
    → whole nodes ds (shown st) rows ps ≡ g → whole nodes ds (shown (slice_set st s v)) rows ps ≡ with_state g s (option_map known_of v)
with_state_seen nodes ds st rows ps g s v is =
    ap (λ (l : List (Option KnownView)). whole nodes ds l rows ps) (shown-set st s v) ∙ ap (λ (h : GraphView). with_state h s (option_map known_of v)) is

pub state_seen : (st : List (Option Held)) (g : GraphView) (s : ℕ) (x : Held) → shown st ≡ g.states → at st s ≡ Some x → x.known ≡ state g s
state_seen st g s x seen there = ap (λ (o : Option KnownView). unwrap_or o (record { node = 0; history = 0; pinned = false })) (sym (shown_there st s x there) ∙ ap (λ (l : List (Option KnownView)). at l s) seen)

-- a state is pinned, or is not any more
pub pinned_seen : (nodes : ℕ) (ds : List (Option PlaceView)) (st : List (Option Held)) (rows : List Row) (ps : List ℕ) (g : GraphView) (s : ℕ) (x : Held) (b : Bool)
    → whole nodes ds (shown st) rows ps ≡ g → at st s ≡ Some x → whole nodes ds (shown (slice_set st s (Some (with_pin b x)))) rows ps ≡ with_state g s (Some (record (state g s) { pinned = b }))
pinned_seen nodes ds st rows ps g s x b is there =
    with_state_seen nodes ds st rows ps g s (Some (with_pin b x)) is
    ∙ ap (λ (v : KnownView). with_state g s (Some (record v { pinned = b }))) (state_seen st g s x (ap (λ (h : GraphView). h.states) is) there)

-- a state is in a dstate where it knows one
pub placed : (nodes : ℕ) (ds : List (Option PlaceView)) (st : List (Option Held)) (rows : List Row) (ps : List ℕ) (g : GraphView) (s : ℕ) (x : Held) (b : Bool) → IsGraph nodes ds st rows ps
    → ds ≡ g.dstates → shown st ≡ g.states → at st s ≡ Some x → IsTrue b ↔ (0 < length x.dstates) → IsTrue b ↔ IsPlaced g s
placed nodes ds st rows ps g s x b is same seen there some =
    let known = is.known s x there in
    let node : x.known.node ≡ (state g s).node = ap (λ (o : Option KnownView). (unwrap_or o (record { node = 0; history = 0; pinned = false })).node) (ap (option_map known_of) (sym there) ∙ (sym (at-shown st s) ∙ ap (λ (l : List (Option KnownView)). at l s) seen)) in
    let over : (d : ℕ) → IsHeld ds x.known.node s d → IsHeld g.dstates (state g s).node s d = λ d h. subst (λ (l : List (Option PlaceView)). IsHeld l (state g s).node s d) same (subst (λ (n : ℕ). IsHeld ds n s d) node h) in
    let back : (d : ℕ) → IsHeld g.dstates (state g s).node s d → IsHeld ds x.known.node s d = λ d h. subst (λ (n : ℕ). IsHeld ds n s d) (sym node) (subst (λ (l : List (Option PlaceView)). IsHeld l (state g s).node s d) (sym same) h) in (
      λ t. let d = a_first x.dstates (some.0 t) in (d.0, over d.0 (known.has d.0 d.1)),
      λ h. some.1 (longer x.dstates h.0 (known.knows h.0 (back h.0 h.1))),
    )
  where
    a_first : (xs : List ℕ) → 0 < length xs → (d : ℕ) × (is_in d xs ≡ true)
    a_first [] h = absurd (omega arith)
    a_first (d ∷ xs) h = (d, rw (eq-eqb d d refl) refl)

    longer : (xs : List ℕ) (d : ℕ) → is_in d xs ≡ true → 0 < length xs
    longer [] d e = absurd cc
    longer (y ∷ xs) d e = omega arith

-- a state that knows no dstate
pub nothing_known : (x : Held) → (b : Bool) → b ≡ false → IsTrue b ↔ (0 < length x.dstates) → x.dstates ≡ []
nothing_known x b e some = go x.dstates refl
  where
    go : (l : List ℕ) → x.dstates ≡ l → x.dstates ≡ []
    go [] is = is
    go (d ∷ l) is =
        let low : 0 < length x.dstates = omega (arith, ap (λ (l : List ℕ). length l) is) in
        let bad : false ≡ true = sym e ∙ some.1 low in absurd cc

-- the states of a node in the dstates of a state
pub target_is : (nodes : ℕ) (ds : List (Option PlaceView)) (st : List (Option Held)) (rows : List Row) (ps : List ℕ) (g : GraphView) (s : ℕ) (k : Held) (n : ℕ) (out : List ℕ) → IsGraph nodes ds st rows ps
    → ds ≡ g.dstates → shown st ≡ g.states → at st s ≡ Some k → out ≡ gathered ds n k.dstates [] → (x : ℕ) → (is_in x out ≡ true) ↔ IsTarget g s n x
target_is nodes ds st rows ps g s k n out is same seen there found x =
    let known = is.known s k there in
    let node : k.known.node ≡ (state g s).node = ap (λ (v : KnownView). v.node) (state_seen st g s k seen there) in
    let over : (m j d : ℕ) → IsHeld ds m j d → IsHeld g.dstates m j d = λ m j d h. subst (λ (l : List (Option PlaceView)). IsHeld l m j d) same h in
    let back : (m j d : ℕ) → IsHeld g.dstates m j d → IsHeld ds m j d = λ m j d h. subst (λ (l : List (Option PlaceView)). IsHeld l m j d) (sym same) h in (
      λ e. elim (gathered-held ds n x k.dstates [] (ap (is_in x) (sym found) ∙ e)) [
        | inl none ↦ absurd cc
        | inr by ↦ (by.0, subst (λ (m : ℕ). IsHeld g.dstates m s by.0) node (over k.known.node s by.0 (known.has by.0 by.1)), over n x by.0 by.2)
      ],
      λ t. ap (is_in x) found ∙ held-gathered ds n x t.0 k.dstates [] (known.knows t.0 (subst (λ (m : ℕ). IsHeld ds m s t.0) (sym node) (back (state g s).node s t.0 t.1))) (back n x t.0 t.2),
    )

-- the lowest state is the lowest one that is seen
pub lowest_shown : (st : List (Option Held)) (seen : List (Option KnownView)) (least k : ℕ) → shown st ≡ seen → IsLowest st least k → IsLowest seen least k
lowest_shown st seen least k is low = subst (λ (l : List (Option KnownView)). IsLowest l least k) is (record {
  within = low.within;
  there = ap is_some (at-shown st k) ∙ go (at st k) low.there;
  first = λ j from to. at-shown st j ∙ ap (option_map known_of) (low.first j from to);
})
  where
    go : (o : Option Held) → IsSome o → is_some (option_map known_of o) ≡ true
    go None e = e
    go (Some x) e = refl

pub none_shown : (st : List (Option Held)) (seen : List (Option KnownView)) (least : ℕ) → shown st ≡ seen → NoneFrom st least → NoneFrom seen least
none_shown st seen least is none = subst (λ (l : List (Option KnownView)). NoneFrom l least) is (λ j from. at-shown st j ∙ ap (option_map known_of) (none j from))

-- what is seen of a graph with one state more
pub has_new : (nodes : ℕ) (ds : List (Option PlaceView)) (ps : List ℕ) (g : GraphView) (st new : List (Option Held)) (rows later : List Row) (s n before h capacity : ℕ) (entries : List Entry)
    → record { nodes = nodes; dstates = ds; states = shown st; histories = told rows; packets = ps } ≡ g
    → at st s ≡ None → at new s ≡ Some (record { known = record { node = n; history = h; pinned = false }; dstates = []; capacity = capacity }) → ((k : ℕ) → k ≢ s → at new k ≡ at st k) → Extends (told rows) (told later)
    → slice_get (told later) h ≡ Some (record { node = n; history = followed (history_in (told rows) before) (entries_history (told rows) entries) })
    → HasNew g (record { nodes = nodes; dstates = ds; states = shown new; histories = told later; packets = ps }) s n before entries
has_new nodes ds ps g st new rows later s n before h capacity entries is free there others grows tells =
    let after : GraphView = record { nodes = nodes; dstates = ds; states = shown new; histories = told later; packets = ps } in
    subst (λ (g : GraphView). HasNew g after s n before entries) is (record {
      was_free = at-shown st s ∙ ap (option_map known_of) free;
      history = h;
      there = at-shown new s ∙ ap (option_map known_of) there;
      tells = tells;
      others = λ k other. at-shown new k ∙ (ap (option_map known_of) (others k other) ∙ sym (at-shown st k));
      grows = grows;
      rest = refl;
    })
