-- What the slots of a table of dstates weigh.
use Rattle.std.proofs.Common.{◌≡◌, ◌≢◌, ℕ, zero, suc, ◌+◌, ◌<◌, Bool, true, false, cond, List, [], ◌∷◌, Option, Some, None, sum_by, refl, sym, ap, ◌∙◌, arith, inl, inr, eq-eqb}
use Rattle.std.proofs.lemmas.Bool.{eqb-true}
use Rattle.std.specs.Prelude.{◌||◌, nat_eq, slice_set, if◌then◌else◌}
use Rattle.std.proofs.lemmas.List.Sums.{sum_by-cons}
use Rattle.kn_dstate.specs.Places.{PlaceView, times, is_in, AreDistinct}
use Rattle.kn_dstate.specs.Graphs.{at}
use Rattle.kn_dstate.specs.Members.{emptied, Became}
use Rattle.kn_dstate.specs.Changes.{somes, slot_weigh, slots_weigh}
use Rattle.kn_dstate.proofs.Holding.{at_other, same_or}

pub somes_weigh : (f : PlaceView → ℕ) (slots : List (Option PlaceView)) → sum_by f (somes slots) ≡ slots_weigh f slots
somes_weigh f [] = refl
somes_weigh f (None ∷ rest) = omega (arith, somes_weigh f rest)
somes_weigh f (Some d ∷ rest) = omega (arith, somes_weigh f rest, sum_by-cons f d (somes rest))

weigh-same : (f : PlaceView → ℕ) (xs ys : List (Option PlaceView)) → ((key : ℕ) → at xs key ≡ at ys key) → slots_weigh f xs ≡ slots_weigh f ys
weigh-same f [] [] same = refl
weigh-same f [] (y ∷ ys) same =
    let rest = weigh-same f [] ys (λ key. same (suc key)) in
    let none : slot_weigh f y ≡ 0 = ap (slot_weigh f) (sym (same zero)) in
    omega (arith, rest, none)
weigh-same f (x ∷ xs) [] same =
    let rest = weigh-same f xs [] (λ key. same (suc key)) in
    let none : slot_weigh f x ≡ 0 = ap (slot_weigh f) (same zero) in
    omega (arith, rest, none)
weigh-same f (x ∷ xs) (y ∷ ys) same =
    let rest = weigh-same f xs ys (λ key. same (suc key)) in
    let equal : slot_weigh f x ≡ slot_weigh f y = ap (slot_weigh f) (same zero) in
    omega (arith, rest, equal)

-- the slots behind the first
later : List (Option PlaceView) → List (Option PlaceView)
later [] = []
later (x ∷ xs) = xs

weigh-later : (f : PlaceView → ℕ) (xs : List (Option PlaceView)) → slots_weigh f xs ≡ slot_weigh f (at xs zero) + slots_weigh f (later xs)
unfolding later
weigh-later f [] = refl
weigh-later f (x ∷ xs) = refl

at-later : (xs : List (Option PlaceView)) (key : ℕ) → at (later xs) key ≡ at xs (suc key)
unfolding later
at-later [] key = refl
at-later (x ∷ xs) key = refl

-- a change at one key
pub weigh-update : (f : PlaceView → ℕ) (xs ys : List (Option PlaceView)) (key : ℕ) → ((other : ℕ) → other ≢ key → at ys other ≡ at xs other) → slots_weigh f ys + slot_weigh f (at xs key) ≡ slots_weigh f xs + slot_weigh f (at ys key)
weigh-update f xs ys zero others =
    let rest : slots_weigh f (later ys) ≡ slots_weigh f (later xs) = weigh-same f (later ys) (later xs) (λ key. at-later ys key ∙ (others (suc key) (λ e. absurd (omega arith)) ∙ sym (at-later xs key))) in
    omega (arith, weigh-later f xs, weigh-later f ys, rest)
weigh-update f xs ys (suc key) others =
    let rest = weigh-update f (later xs) (later ys) key (λ other ne. at-later ys other ∙ (others (suc other) (λ e. ne (omega arith)) ∙ sym (at-later xs other))) in
    let x : slot_weigh f (at (later xs) key) ≡ slot_weigh f (at xs (suc key)) = ap (slot_weigh f) (at-later xs key) in
    let y : slot_weigh f (at (later ys) key) ≡ slot_weigh f (at ys (suc key)) = ap (slot_weigh f) (at-later ys key) in
    let head : slot_weigh f (at ys zero) ≡ slot_weigh f (at xs zero) = ap (slot_weigh f) (others zero (λ e. absurd (omega arith))) in
    omega (arith, weigh-later f xs, weigh-later f ys, rest, x, y, head)

-- a dstate came to a free key
pub weigh-added : (f : PlaceView → ℕ) (xs ys : List (Option PlaceView)) (key : ℕ) (d : PlaceView) → at xs key ≡ None → at ys key ≡ Some d → ((other : ℕ) → other ≢ key → at ys other ≡ at xs other) → slots_weigh f ys ≡ slots_weigh f xs + f d
weigh-added f xs ys key d free there others =
    let x : slot_weigh f (at xs key) ≡ 0 = ap (slot_weigh f) free in
    let y : slot_weigh f (at ys key) ≡ f d = ap (slot_weigh f) there in
    omega (arith, weigh-update f xs ys key others, x, y)

at_cleared : (xs : List (Option PlaceView)) (s : ℕ) → at (slice_set xs s None) s ≡ None
at_cleared [] s = refl
at_cleared (x ∷ xs) zero = refl
at_cleared (x ∷ xs) (suc s) = at_cleared xs s

-- a number that stands once at most is not among those behind it
pub not_again : (d : ℕ) (ds : List ℕ) → AreDistinct (d ∷ ds) → is_in d ds ≡ false
not_again d ds once = go (is_in d ds) refl
  where
    one_time : (b : Bool) → b ≡ true → ◌≡◌ {A = ℕ} (cond b 1 0) 1
    one_time true e = refl
    one_time false e = absurd cc

    more : (xs : List ℕ) → is_in d xs ≡ true → 0 < times d xs
    more [] e = absurd cc
    more (x ∷ xs) e = one (nat_eq x d) e (more xs)
      where
        one : (b : Bool) → (b || is_in d xs) ≡ true → (is_in d xs ≡ true → 0 < times d xs) → 0 < cond b 1 0 + times d xs
        one true e rest = omega arith
        one false e rest = let low = rest e in omega (arith, low)

    go : (b : Bool) → is_in d ds ≡ b → b ≡ false
    go false e = refl
    go true e =
        let low = more ds e in
        let two = once d in
        let same = one_time (nat_eq d d) (eq-eqb d d refl) in
        absurd (omega (arith, low, two, same))

behind : (d : ℕ) (ds : List ℕ) → AreDistinct (d ∷ ds) → AreDistinct ds
behind d ds once x = let two = once x in omega (arith, two)

-- what went and what is left weigh what was there
pub weigh-gone : (f : PlaceView → ℕ) (old new : List (Option PlaceView)) (went : List ℕ) → AreDistinct went → Became emptied (λ k. is_in k went) old new
    → slots_weigh f new + sum_by (λ d. slot_weigh f (at old d)) went ≡ slots_weigh f old
weigh-gone f old new [] once is = let same = weigh-same f new old is in omega (arith, same)
weigh-gone f old new (d ∷ ds) once is =
    let mid : List (Option PlaceView) = slice_set old d None in
    let other = not_again d ds once in
    let step : (k : ℕ) → at new k ≡ (if is_in k ds then None else at mid k) = λ k. is k ∙ elim (same_or k d) [
      | inl same ↦ ap (λ (b : Bool). if b || is_in k ds then None else at old k) (eq-eqb d k (sym same)) ∙ sym (go k (is_in k ds) (ap (at mid) same ∙ at_cleared old d))
      | inr ne ↦ ap (λ (b : Bool). if b || is_in k ds then None else at old k) (unequal d k ne) ∙ ap (λ (o : Option PlaceView). if is_in k ds then None else o) (sym (at_other old d k None ne))
    ] in
    let rest = weigh-gone f mid new ds (behind d ds once) step in
    let here = weigh-update f old mid d (λ k ne. at_other old d k None ne) in
    let none : slot_weigh f (at mid d) ≡ 0 = ap (slot_weigh f) (at_cleared old d) in
    let same = sums ds other in
    omega (arith, rest, here, none, same, sum_by-cons (λ d. slot_weigh f (at old d)) d ds)
  where
    go : (k : ℕ) (b : Bool) → at (slice_set old d None) k ≡ None → cond b None (at (slice_set old d None) k) ≡ None
    go k true e = refl
    go k false e = e

    unequal : (a b : ℕ) → b ≢ a → nat_eq a b ≡ false
    unequal a b ne = un (nat_eq a b) refl
      where
        un : (t : Bool) → nat_eq a b ≡ t → t ≡ false
        un false e = refl
        un true e = absurd (ne (sym (eqb-true a b e)))

    sums : (xs : List ℕ) → is_in d xs ≡ false → sum_by (λ k. slot_weigh f (at (slice_set old d None) k)) xs ≡ sum_by (λ k. slot_weigh f (at old k)) xs
    sums [] e = refl
    sums (x ∷ xs) e =
        let apart = neither (nat_eq x d) (is_in d xs) e in
        let rest = sums xs apart.1 in
        let one : slot_weigh f (at (slice_set old d None) x) ≡ slot_weigh f (at old x) = ap (slot_weigh f) (at_other old d x None (λ same. let bad : true ≡ false = sym (eq-eqb x d same) ∙ apart.0 in absurd cc)) in
        omega (arith, rest, one, sum_by-cons (λ k. slot_weigh f (at (slice_set old d None) k)) x xs, sum_by-cons (λ k. slot_weigh f (at old k)) x xs)
      where
        neither : (a b : Bool) → (a || b) ≡ false → (a ≡ false) × (b ≡ false)
        neither false false e = (refl, refl)
        neither true b e = absurd cc
        neither false true e = absurd cc
