-- What a graph is after dstates came and others went.
use Rattle.std.proofs.Common.{◌≡◌, ℕ, ◌+◌, ◌<◌, Bool, true, false, cond, List, [], ◌∷◌, length, map, refl, ap, subst, sym, ◌∙◌, arith, Some, None, Option, inl, inr, eq-eqb, sum_by}
use Rattle.std.specs.Prelude.{◌||◌, ◌⊎◌, ◌&&◌, not, nat_eq, option_map, unwrap_or, is_some, IsSome}
use Rattle.std.proofs.lemmas.List.Sums.{sum_by-cons, sum_by-append}
use Rattle.kn_dstate.specs.declared.row.Row.{Row}
use Rattle.kn_dstate.specs.Places.{PlaceView, is_in, AreDistinct}
use Rattle.kn_dstate.specs.Graphs.{KnownView, GraphView, Held, HasDstate, dstate, known_of, shown, at, IsHeld, IsPlace, IsGraph}
use Rattle.kn_dstate.specs.Members.{is_nothing, is_idle, all_bare, Became, emptied, HasLeft, HasGone, IsThinner}
use Rattle.kn_dstate.specs.Changes.{somes, slot_weigh, slots_weigh, IsSomewhere, IsSettled, IsReplaced}
use Rattle.kn_dstate.proofs.Holding.{at-shown, held_known, whole}
use Rattle.kn_dstate.proofs.Weights.{somes_weigh, weigh-gone}
use Rattle.std.specs.List.{AllByRecursion}
use Rattle.kn_dstate.proofs.Exchanging.{some_none, some_same, true_false, or-true, IsGraph-bare, seen-bare}

a_first : (xs : List ℕ) → 0 < length xs → (d : ℕ) × (is_in d xs ≡ true)
a_first [] h = absurd (omega arith)
a_first (d ∷ xs) h = (d, ap (λ (b : Bool). b || is_in d xs) (eq-eqb d d refl))

filled : (xs : List ℕ) → is_nothing xs ≡ false → 0 < length xs
filled [] e = absurd cc
filled (x ∷ xs) e = omega arith

busy : (y : Held) → is_idle y ≡ false → y.known.pinned ≡ false → 0 < length y.dstates
busy y stays free = filled y.dstates (go (is_nothing y.dstates) y.known.pinned stays free)
  where
    go : (a b : Bool) → (a && not b) ≡ false → b ≡ false → a ≡ false
    go false b e f = refl
    go true false e f = absurd cc
    go true true e f = absurd cc

module _ (nodes : ℕ) (ds0 mid ds : List (Option PlaceView)) (st0 st2 st : List (Option Held)) (rows : List Row) (ps : List ℕ) (g2 : IsGraph nodes mid st2 rows ps) (g3 : IsGraph nodes ds st rows ps)
    (on : (d : ℕ) (p : PlaceView) → at ds0 d ≡ Some p → at mid d ≡ Some p) (of : (d : ℕ) (p : PlaceView) → at mid d ≡ Some p → (at ds0 d ≡ Some p) ⊎ (at ds d ≡ Some p))
    (left : (k : ℕ) → HasLeft (at st2 k) (at st k)) (seen : shown st2 ≡ shown st0) where
  abbrev before : GraphView
  before = whole nodes ds0 (shown st0) rows ps

  abbrev after : GraphView
  after = whole nodes ds (shown st) rows ps

  was_seen : (k : ℕ) (o : Option Held) → at st2 k ≡ o → at (shown st0) k ≡ option_map known_of o
  was_seen k o is = ap (λ (l : List (Option KnownView)). at l k) (sym seen) ∙ (at-shown st2 k ∙ ap (option_map known_of) is)

  is_seen : (k : ℕ) (o : Option Held) → at st k ≡ o → at (shown st) k ≡ option_map known_of o
  is_seen k o is = at-shown st k ∙ ap (option_map known_of) is

  now_somewhere : (k : ℕ) (y : Held) → at st k ≡ Some y → 0 < length y.dstates → IsSomewhere ds y.known.node k
  now_somewhere k y is some = let d = a_first y.dstates some in (d.0, (g3.known k y is).has d.0 d.1)

  not_gone : (k n : ℕ) → at (shown st) k ≡ None → IsSomewhere ds n k → ⊥
  not_gone k n none w = let is = held_known nodes (shown st) ps n k w.1.0 (g3.places w.0 w.1.0 w.1.1) w.1.2 in some_none (at (shown st) k) is.0 is.1 none

  listed : (k : ℕ) (x : Held) → at st2 k ≡ Some x → IsSomewhere ds0 x.known.node k → 0 < length x.dstates
  listed k x is w = longer x.dstates w.0 ((g2.known k x is).knows w.0 (w.1.0, on w.0 w.1.0 w.1.1, w.1.2))
    where
      longer : (xs : List ℕ) (d : ℕ) → is_in d xs ≡ true → 0 < length xs
      longer [] d e = absurd cc
      longer (z ∷ xs) d e = omega arith

  stayed : (k : ℕ) (x y : Held) → at st2 k ≡ Some x → at st k ≡ Some y → (y ≡ x) ⊎ IsThinner x y → IsSettled before after k
  stayed k x y is there h =
      let known : y.known ≡ x.known = elim h [ inl same ↦ ap (λ (z : Held). z.known) same | inr thin ↦ thin.known ] in
      let same : (v : KnownView) → at (shown st0) k ≡ Some v → at (shown st) k ≡ Some v = λ v e. is_seen k (Some y) there ∙ (ap Some known ∙ (sym (was_seen k (Some x) is) ∙ e)) in
      record {
        none = λ e. some_none (at (shown st0) k) x.known (was_seen k (Some x) is) e;
        placed = λ v e w. same v e;
        pinned = λ v e p. same v e;
        apart = λ v e w. same v e;
        gone = λ v e free was never.
            let v_is : x.known ≡ v = some_same (at (shown st0) k) x.known v (was_seen k (Some x) is) e in
            let node : y.known.node ≡ v.node = ap (λ (z : KnownView). z.node) (known ∙ v_is) in
            let listed_now : 0 < length y.dstates = elim h [
              | inl same ↦ subst (λ (z : Held). 0 < length z.dstates) (sym same) (listed k x is (subst (λ (m : ℕ). IsSomewhere ds0 m k) (sym (ap (λ (z : KnownView). z.node) v_is)) was))
              | inr thin ↦ busy y thin.stays (ap (λ (z : KnownView). z.pinned) (known ∙ v_is) ∙ free)
            ] in
            absurd (never (subst (λ (m : ℕ). IsSomewhere ds m k) node (now_somewhere k y there listed_now)));
      }

  went : (k : ℕ) (x : Held) → at st2 k ≡ Some x → at st k ≡ None → HasGone x → IsSettled before after k
  went k x is there h =
      let none : at (shown st) k ≡ None = is_seen k None there in
      let v_is : (v : KnownView) → at (shown st0) k ≡ Some v → x.known ≡ v = λ v e. some_same (at (shown st0) k) x.known v (was_seen k (Some x) is) e in
      record {
        none = λ e. none;
        placed = λ v e w. absurd (not_gone k v.node none w);
        pinned = λ v e p. true_false v.pinned p (ap (λ (z : KnownView). z.pinned) (sym (v_is v e)) ∙ h.free);
        apart = λ v e never.
            let node : x.known.node ≡ v.node = ap (λ (z : KnownView). z.node) (v_is v e) in
            let d = a_first x.dstates h.was_in in
            let held = (g2.known k x is).has d.0 d.1 in
            elim (of d.0 held.0 held.1) [
              | inl old ↦ absurd (never (d.0, subst (λ (m : ℕ). IsHeld ds0 m k d.0) node (held.0, old, held.2)))
              | inr new ↦ absurd (not_gone k x.known.node none (d.0, (held.0, new, held.2)))
            ];
        gone = λ v e free was never. none;
      }

  nothing : (k : ℕ) → at st2 k ≡ None → at st k ≡ None → IsSettled before after k
  nothing k is there =
      let none : at (shown st0) k ≡ None = was_seen k None is in
      record {
        none = λ e. is_seen k None there;
        placed = λ v e w. some_none (at (shown st0) k) v e none;
        pinned = λ v e p. some_none (at (shown st0) k) v e none;
        apart = λ v e w. some_none (at (shown st0) k) v e none;
        gone = λ v e free was never. some_none (at (shown st0) k) v e none;
      }

  pub settled : (k : ℕ) → IsSettled (whole nodes ds0 (shown st0) rows ps) (whole nodes ds (shown st) rows ps) k
  settled k = go (at st2 k) (at st k) refl refl (left k)
    where
      go : (o o' : Option Held) → at st2 k ≡ o → at st k ≡ o' → HasLeft o o' → IsSettled before after k
      go None o' is there h = nothing k is (there ∙ h)
      go (Some x) None is there h = went k x is there h
      go (Some x) (Some y) is there h = stayed k x y is there h

-- dstates went, and others had come before
pub replaced : (nodes : ℕ) (ds0 mid ds : List (Option PlaceView)) (st0 st2 st : List (Option Held)) (rows : List Row) (ps : List ℕ) (g : GraphView) (gone : List ℕ) (came : List PlaceView) → whole nodes ds0 (shown st0) rows ps ≡ g
    → IsGraph nodes mid st2 rows ps → IsGraph nodes ds st rows ps → ((d : ℕ) → is_in d gone ≡ true → HasDstate g d) → AreDistinct gone
    → ((d : ℕ) (p : PlaceView) → at ds0 d ≡ Some p → at mid d ≡ Some p) → ((f : PlaceView → ℕ) → slots_weigh f mid ≡ slots_weigh f ds0 + sum_by f came)
    → Became emptied (λ k. is_in k gone) mid ds → ((k : ℕ) → HasLeft (at st2 k) (at st k)) → shown st2 ≡ shown st0
    → IsReplaced g (whole nodes ds (shown st) rows ps) gone came
replaced nodes ds0 mid ds st0 st2 st rows ps g gone came is g2 g3 there once kept weight cleared left seen =
    let new : GraphView = whole nodes ds (shown st) rows ps in
    let old_there : (d : ℕ) → is_in d gone ≡ true → IsSome (at ds0 d) = λ d e. subst (λ (h : GraphView). IsSome (at h.dstates d)) (sym is) (there d e) in
    let of : (d : ℕ) (p : PlaceView) → at mid d ≡ Some p → (at ds0 d ≡ Some p) ⊎ (at ds d ≡ Some p) = λ d p e. came_from d p e (at ds0 d) refl (is_in d gone) refl (old_there d) in
    subst (λ (h : GraphView). IsReplaced h new gone came) is (record {
      dstates = λ f.
          let parts = weigh-gone f mid ds gone once cleared in
          let same = sums f gone old_there in
          omega (
            arith,
            parts,
            same,
            weight f,
            somes_weigh f ds,
            somes_weigh f ds0,
            sum_by-append f (somes ds) (map (dstate (whole nodes ds0 (shown st0) rows ps)) gone),
            sum_by-append f (somes ds0) came,
          );
      stay = λ d was out. cleared d ∙ (ap (λ (b : Bool). cond b None (at mid d)) out ∙ on_still d (at ds0 d) refl was);
      states = settled nodes ds0 mid ds st0 st2 st rows ps g2 g3 kept of left seen;
      rest = refl;
    })
  where
    on_still : (d : ℕ) (o : Option PlaceView) → at ds0 d ≡ o → IsSome o → at mid d ≡ at ds0 d
    on_still d None e h = absurd cc
    on_still d (Some p) e h = kept d p e ∙ sym e

    came_from : (d : ℕ) (p : PlaceView) → at mid d ≡ Some p → (o : Option PlaceView) → at ds0 d ≡ o → (b : Bool) → is_in d gone ≡ b → (is_in d gone ≡ true → IsSome (at ds0 d)) → (at ds0 d ≡ Some p) ⊎ (at ds d ≡ Some p)
    came_from d p e (Some q) was b out has = inl (was ∙ (sym (kept d q was) ∙ e))
    came_from d p e None was false out has = inr (cleared d ∙ (ap (λ (b : Bool). cond b None (at mid d)) out ∙ e))
    came_from d p e None was true out has = let bad : is_some (at ds0 d) ≡ true = has out in let none : is_some (at ds0 d) ≡ false = ap (λ (o : Option PlaceView). is_some o) was in true_false (is_some (at ds0 d)) bad none

    one : (f : PlaceView → ℕ) (d : ℕ) (o : Option PlaceView) → at ds0 d ≡ o → IsSome o → slot_weigh f (at mid d) ≡ f (dstate (whole nodes ds0 (shown st0) rows ps) d)
    one f d None e h = absurd cc
    one f d (Some p) e h = ap (slot_weigh f) (kept d p e) ∙ ap (λ (o : Option PlaceView). f (unwrap_or o (record { columns = []; inboxes = [] }))) (sym e)

    sums : (f : PlaceView → ℕ) (xs : List ℕ) → ((d : ℕ) → is_in d xs ≡ true → IsSome (at ds0 d)) → sum_by (λ d. slot_weigh f (at mid d)) xs ≡ sum_by f (map (dstate (whole nodes ds0 (shown st0) rows ps)) xs)
    sums f [] has = refl
    sums f (x ∷ xs) has =
        let rest = sums f xs (λ d e. has d (ap (λ (b : Bool). nat_eq x d || b) e ∙ or-true (nat_eq x d))) in
        let here = one f x (at ds0 x) refl (has x (ap (λ (b : Bool). b || is_in x xs) (eq-eqb x x refl))) in
        omega (arith, rest, here, sum_by-cons (λ d. slot_weigh f (at mid d)) x xs, sum_by-cons f (dstate (whole nodes ds0 (shown st0) rows ps) x) (map (dstate (whole nodes ds0 (shown st0) rows ps)) xs))

-- a graph in which room was made
pub ready_graph : (nodes : ℕ) (ds ds1 : List (Option PlaceView)) (st st1 : List (Option Held)) (rows : List Row) (ps : List ℕ) → ds1 ≡ ds → all_bare st1 ≡ all_bare st → IsGraph nodes ds st rows ps → IsGraph nodes ds1 st1 rows ps
ready_graph nodes ds ds1 st st1 rows ps same is g = subst (λ (l : List (Option PlaceView)). IsGraph nodes l st1 rows ps) (sym same) (IsGraph-bare nodes ds st st1 rows ps is (seen-bare st st1 is) g)

pub seen_on : (nodes : ℕ) (ds ds1 : List (Option PlaceView)) (st st1 : List (Option Held)) (rows : List Row) (ps : List ℕ) (g : GraphView) → ds1 ≡ ds → all_bare st1 ≡ all_bare st → whole nodes ds (shown st) rows ps ≡ g → whole nodes ds1 (shown st1) rows ps ≡ g
seen_on nodes ds ds1 st st1 rows ps g same is view =
    ap (λ (l : List (Option PlaceView)). whole nodes l (shown st1) rows ps) same ∙ (ap (λ (l : List (Option KnownView)). whole nodes ds l rows ps) (seen-bare st st1 is) ∙ view)

pub fits_on : (nodes : ℕ) (ds : List (Option PlaceView)) (st st1 : List (Option Held)) (rows : List Row) (ps : List ℕ) (g : GraphView) (came : List PlaceView) → all_bare st1 ≡ all_bare st → whole nodes ds (shown st) rows ps ≡ g
    → AllByRecursion (IsPlace g.nodes g.states g.packets) came → AllByRecursion (IsPlace nodes (shown st1) ps) came
fits_on nodes ds st st1 rows ps g came is view fits =
    subst (λ (l : List (Option KnownView)). AllByRecursion (IsPlace nodes l ps) came) (sym (seen-bare st st1 is)) (subst (λ (h : GraphView). AllByRecursion (IsPlace h.nodes h.states h.packets) came) (sym view) fits)

pub kept_on : (ds ds1 mid : List (Option PlaceView)) → ds1 ≡ ds → ((d : ℕ) (p : PlaceView) → at ds1 d ≡ Some p → at mid d ≡ Some p) → (d : ℕ) (p : PlaceView) → at ds d ≡ Some p → at mid d ≡ Some p
kept_on ds ds1 mid same kept d p e = kept d p (ap (λ (l : List (Option PlaceView)). at l d) same ∙ e)

pub weight_on : (ds ds1 mid : List (Option PlaceView)) (came : List PlaceView) → ds1 ≡ ds → ((f : PlaceView → ℕ) → slots_weigh f mid ≡ slots_weigh f ds1 + sum_by f came) → (f : PlaceView → ℕ) → slots_weigh f mid ≡ slots_weigh f ds + sum_by f came
weight_on ds ds1 mid came same weight f = weight f ∙ ap (λ (l : List (Option PlaceView)). slots_weigh f l + sum_by f came) same
