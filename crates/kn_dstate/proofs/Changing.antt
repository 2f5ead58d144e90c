-- Slots that changed one after another.
use Rattle.std.proofs.Common.{◌≡◌, ℕ, zero, suc, ◌+◌, ◌<◌, Bool, true, false, cond, List, [], ◌∷◌, ◌++◌, length, ◌-◌, length-append, map, get_or, take, refl, ap, subst, sym, ◌∙◌, arith, Some, None, Option, inl, inr, eq-eqb}
use Rattle.std.specs.Prelude.{◌||◌, ◌&&◌, ◌⊎◌, nat_eq, not, slice_set, option_map}
use Rattle.std.proofs.lemmas.Bool.{eqb-true}
use Rattle.std.proofs.lemmas.List.{take_more, map-append}
use Rattle.kn_dstate.specs.Places.{PlaceView, is_in, others}
use Rattle.kn_dstate.specs.Graphs.{KnownView, at, Held}
use Rattle.kn_dstate.specs.Members.{is_found, ends_with, noted, noted_slot, forgot, is_nothing, is_idle, unless_idle, left_slot, is_among, is_of_some, Became, HasRoom, IsReadyFor, HasMore, bare, all_bare, IsThinner, HasLeft}
use Rattle.kn_dstate.proofs.Gathering.{or_cases, is_in-append, or-false}
use Rattle.kn_dstate.proofs.Growing.{get_last}

-- a change that makes nothing more when it is made again
abbrev pub IsOnce : {A : Type 0} → (Option A → Option A) → Type 0
IsOnce {A} f = (o : Option A) → f (f o) ≡ f o

-- one change more
pub became-more : {A : Type 0} (f : Option A → Option A) → IsOnce f → (a b c : ℕ → Bool) (old mid new : List (Option A)) → ((k : ℕ) → c k ≡ (a k || b k)) → Became f a old mid → Became f b mid new → Became f c old new
became-more f once a b c old mid new is first then k = then k ∙ (go (a k) (b k) (first k) ∙ ap (λ (t : Bool). cond t (f (at old k)) (at old k)) (sym (is k)))
  where
    go : (x y : Bool) → at mid k ≡ cond x (f (at old k)) (at old k) → cond y (f (at mid k)) (at mid k) ≡ cond (x || y) (f (at old k)) (at old k)
    go true true e = ap f e ∙ once (at old k)
    go true false e = e
    go false true e = ap f e
    go false false e = e

-- one number more of a list
pub in_more : {V : Type 0} (f : V → ℕ) (xs : List V) (i : ℕ) (v : V) (k : ℕ) → i < length xs → is_in k (map f (take (i + 1) xs)) ≡ (is_in k (map f (take i xs)) || nat_eq (f (get_or xs i v)) k)
in_more {V} f xs i d k low =
    let v = get_or xs i d in
    let more : take (i + 1) xs ≡ take i xs ++ v ∷ [] = take_more xs i d low in
    ap (λ (l : List V). is_in k (map f l)) more ∙ (ap (is_in k) (map-append f (take i xs) (v ∷ [])) ∙ (is_in-append k (map f (take i xs)) (f v ∷ []) ∙ ap (λ (b : Bool). is_in k (map f (take i xs)) || b) (or-false (nat_eq (f v) k))))

or-assoc : (a b c : Bool) → ((a || b) || c) ≡ (a || (b || c))
or-assoc true b c = refl
or-assoc false b c = refl

is_among-append : (k : ℕ) (cs ds : List (List ℕ)) → is_among k (cs ++ ds) ≡ (is_among k cs || is_among k ds)
is_among-append k [] ds = refl
is_among-append k (c ∷ cs) ds = ap (λ (b : Bool). is_in k c || b) (is_among-append k cs ds) ∙ sym (or-assoc (is_in k c) (is_among k cs) (is_among k ds))

-- one list more
pub among_more : {V : Type 0} (f : V → List ℕ) (xs : List V) (i : ℕ) (v : V) (k : ℕ) → i < length xs → v ≡ get_or xs i v → is_among k (map f (take (i + 1) xs)) ≡ (is_among k (map f (take i xs)) || is_in k (f v))
among_more {V} f xs i v k low is =
    let more : take (i + 1) xs ≡ take i xs ++ v ∷ [] = take_more xs i v low ∙ ap (λ (x : V). take i xs ++ x ∷ []) (sym is) in
    ap (λ (l : List V). is_among k (map f l)) more ∙ (ap (is_among k) (map-append f (take i xs) (v ∷ [])) ∙ (is_among-append k (map f (take i xs)) (f v ∷ []) ∙ ap (λ (b : Bool). is_among k (map f (take i xs)) || b) (or-false (is_in k (f v)))))

-- an item of a list stands in it
pub get_in : {V : Type 0} (f : V → ℕ) (xs : List V) (i : ℕ) (d : V) → i < length xs → is_in (f (get_or xs i d)) (map f xs) ≡ true
get_in f [] i d low = absurd (omega arith)
get_in f (x ∷ xs) zero d low = ap (λ (b : Bool). b || is_in (f x) (map f xs)) (eq-eqb (f x) (f x) refl)
get_in f (x ∷ xs) (suc i) d low = ap (λ (b : Bool). nat_eq (f x) (f (get_or xs i d)) || b) (get_in f xs i d (omega (arith, low))) ∙ go (nat_eq (f x) (f (get_or xs i d)))
  where
    go : (b : Bool) → (b || true) ≡ true
    go true = refl
    go false = refl

pub in_among : {V : Type 0} (f : V → List ℕ) (xs : List V) (i : ℕ) (v : V) (k : ℕ) → i < length xs → v ≡ get_or xs i v → is_in k (f v) ≡ true → is_among k (map f xs) ≡ true
in_among f [] i v k low is e = absurd (omega arith)
in_among f (x ∷ xs) zero v k low is e = ap (λ (b : Bool). b || is_among k (map f xs)) (ap (λ (y : _). is_in k (f y)) (sym is) ∙ e)
in_among f (x ∷ xs) (suc i) v k low is e = ap (λ (b : Bool). is_in k (f x) || b) (in_among f xs i v k (omega (arith, low)) is e) ∙ go (is_in k (f x))
  where
    go : (b : Bool) → (b || true) ≡ true
    go true = refl
    go false = refl

-- what is noted ends with it
pub ends_with-last : (d : ℕ) (xs : List ℕ) → ends_with d (xs ++ d ∷ []) ≡ true
ends_with-last d xs =
    let end : length (xs ++ d ∷ []) - 1 ≡ length xs = omega (arith, length-append xs (d ∷ [])) in
    ap (is_found d) (get_last xs d (length (xs ++ d ∷ []) - 1) end) ∙ eq-eqb d d refl

noted-ends : (d : ℕ) (x : Held) → ends_with d (noted d x).dstates ≡ true
noted-ends d x = go (ends_with d x.dstates) refl
  where
    go : (b : Bool) → ends_with d x.dstates ≡ b → ends_with d (cond b x (record x { dstates = x.dstates ++ d ∷ [] })).dstates ≡ true
    go true e = e
    go false e = ends_with-last d x.dstates

noted-same : (d : ℕ) (x : Held) → ends_with d x.dstates ≡ true → noted d x ≡ x
noted-same d x e = rw e refl

pub noted-once : (d : ℕ) → IsOnce (noted_slot d)
noted-once d None = refl
noted-once d (Some x) = ap Some (noted-same d (noted d x) (noted-ends d x))

-- a slot that was told of d is ready for it
pub ready-noted : (d : ℕ) (o : Option Held) → IsReadyFor d (noted_slot d o)
ready-noted d None = tt
ready-noted d (Some x) = λ e. let bad : true ≡ false = sym (noted-ends d x) ∙ e in absurd cc

pub ready-became : (d : ℕ) (t : ℕ → Bool) (old new : List (Option Held)) (k : ℕ) → Became (noted_slot d) t old new → IsReadyFor d (at old k) → IsReadyFor d (at new k)
ready-became d t old new k is ready = subst (IsReadyFor d) (sym (is k)) (go (t k))
  where
    go : (b : Bool) → IsReadyFor d (cond b (noted_slot d (at old k)) (at old k))
    go true = ready-noted d (at old k)
    go false = ready

-- what was left out is not there
pub others-none : (d : ℕ) (xs : List ℕ) → is_in d (others d xs) ≡ false
others-none d [] = refl
others-none d (x ∷ xs) = go (nat_eq x d) refl (others-none d xs)
  where
    go : (b : Bool) → nat_eq x d ≡ b → is_in d (others d xs) ≡ false → is_in d (cond (not b) (x ∷ others d xs) (others d xs)) ≡ false
    go true e rest = rest
    go false e rest = ap (λ (b : Bool). b || is_in d (others d xs)) e ∙ rest

pub left-once : (d : ℕ) → IsOnce (left_slot d)
left-once d None = refl
left-once d (Some x) = go (is_in d x.dstates) refl
  where
    more : (b : Bool) → is_idle (forgot d x) ≡ b → left_slot d (cond b None (Some (forgot d x))) ≡ cond b None (Some (forgot d x))
    more true e = refl
    more false e = ap (λ (b : Bool). cond b (unless_idle (forgot d (forgot d x))) (Some (forgot d x))) (others-none d x.dstates)

    go : (b : Bool) → is_in d x.dstates ≡ b → left_slot d (cond b (unless_idle (forgot d x)) (Some x)) ≡ cond b (unless_idle (forgot d x)) (Some x)
    go true e = more (is_idle (forgot d x)) refl
    go false e = ap (λ (b : Bool). cond b (unless_idle (forgot d x)) (Some x)) e

-- a write that leaves a part of the state as it was
pub map-kept : {B : Type 0} (f : Held → B) (xs : List (Option Held)) (s : ℕ) (x y : Held) → at xs s ≡ Some x → f y ≡ f x → map (option_map f) (slice_set xs s (Some y)) ≡ map (option_map f) xs
map-kept f [] s x y there same = refl
map-kept f (o ∷ xs) zero x y there same = ap (λ (o' : _). o' ∷ map (option_map f) xs) (ap Some same ∙ ap (option_map f) (sym there))
map-kept f (o ∷ xs) (suc s) x y there same = ap (λ (l : _). option_map f o ∷ l) (map-kept f xs s x y there same)

pub noted-known : (d : ℕ) (x : Held) → (noted d x).known ≡ x.known
noted-known d x = go (ends_with d x.dstates)
  where
    go : (b : Bool) → (cond b x (record x { dstates = x.dstates ++ d ∷ [] })).known ≡ x.known
    go true = refl
    go false = refl

-- room for the numbers of those done, and of one more
pub room-more : (more : ℕ) (xs ys : List (Option Held)) (t u w : ℕ → Bool) → ((k : ℕ) → w k ≡ (t k || u k)) → ((k : ℕ) → HasMore (at xs k) (at ys k)) → ((k : ℕ) → t k ≡ true → HasRoom more (at xs k)) → ((k : ℕ) → u k ≡ true → HasRoom more (at ys k))
    → (k : ℕ) → w k ≡ true → HasRoom more (at ys k)
room-more more xs ys t u w is grows before now k e = elim (or_cases (t k) (u k) (sym (is k) ∙ e)) [
  | inl b ↦ grows k more (before k b)
  | inr n ↦ now k n
]

pub room-one : (more s : ℕ) (ys : List (Option Held)) → HasRoom more (at ys s) → (k : ℕ) → nat_eq s k ≡ true → HasRoom more (at ys k)
room-one more s ys room k e = subst (λ (j : ℕ). HasRoom more (at ys j)) (eqb-true s k e) room

is_of_some-append : (k : ℕ) (ps qs : List PlaceView) → is_of_some k (ps ++ qs) ≡ (is_of_some k ps || is_of_some k qs)
is_of_some-append k [] qs = refl
is_of_some-append k (p ∷ ps) qs = ap (λ (b : Bool). is_among k p.columns || b) (is_of_some-append k ps qs) ∙ sym (or-assoc (is_among k p.columns) (is_of_some k ps) (is_of_some k qs))

pub some_last : (k : ℕ) (ps : List PlaceView) (p : PlaceView) → is_of_some k (ps ++ p ∷ []) ≡ (is_of_some k ps || is_among k p.columns)
some_last k ps p = is_of_some-append k ps (p ∷ []) ∙ ap (λ (b : Bool). is_of_some k ps || b) (or-false (is_among k p.columns))

-- one dstate more
pub some_more : (ps : List PlaceView) (i : ℕ) (p : PlaceView) (k : ℕ) → i < length ps → p ≡ get_or ps i p → is_of_some k (take (i + 1) ps) ≡ (is_of_some k (take i ps) || is_among k p.columns)
some_more ps i p k low is = ap (is_of_some k) (take_more ps i p low ∙ ap (λ (x : PlaceView). take i ps ++ x ∷ []) (sym is)) ∙ some_last k (take i ps) p

-- what a slot of what is seen without room says
pub at-bare : (xs : List (Option Held)) (k : ℕ) → at (all_bare xs) k ≡ option_map bare (at xs k)
at-bare [] k = refl
at-bare (x ∷ xs) zero = refl
at-bare (x ∷ xs) (suc k) = at-bare xs k

-- a state that leaves one dstate more
pub left-more : (o o' : Option Held) (d : ℕ) → HasLeft o o' → HasLeft o (left_slot d o')
left-more None o' d h = ap (left_slot d) h
left-more (Some x) None d h = h
left-more (Some x) (Some y) d h = go (is_in d y.dstates) refl
  where
    filled : (xs : List ℕ) → is_in d xs ≡ true → 0 < length xs
    filled [] e = absurd cc
    filled (z ∷ zs) e = omega arith

    known : (y ≡ x) ⊎ IsThinner x y → y.known ≡ x.known
    known (inl same) = ap (λ (z : Held). z.known) same
    known (inr thin) = thin.known

    was_in : (y ≡ x) ⊎ IsThinner x y → is_in d y.dstates ≡ true → 0 < length x.dstates
    was_in (inl same) e = filled x.dstates (ap (λ (z : Held). is_in d z.dstates) (sym same) ∙ e)
    was_in (inr thin) e = thin.was_in

    free : (z : Held) → is_idle z ≡ true → z.known.pinned ≡ false
    free z e = both (is_nothing z.dstates) z.known.pinned e
      where
        both : (a b : Bool) → (a && not b) ≡ true → b ≡ false
        both a false e = refl
        both true true e = absurd cc
        both false true e = absurd cc

    gone : (b : Bool) → is_idle (forgot d y) ≡ b → is_in d y.dstates ≡ true → HasLeft (Some x) (cond b None (Some (forgot d y)))
    gone true idle e = record { free = ap (λ (k : KnownView). k.pinned) (sym (known h)) ∙ free (forgot d y) idle; was_in = was_in h e }
    gone false idle e = inr (record { known = known h; stays = idle; was_in = was_in h e })

    go : (b : Bool) → is_in d y.dstates ≡ b → HasLeft (Some x) (cond b (unless_idle (forgot d y)) (Some y))
    go true e = gone (is_idle (forgot d y)) refl e
    go false e = h

pub left-became : (o : Option Held) (d : ℕ) (t : ℕ → Bool) (old new : List (Option Held)) (k : ℕ) → Became (left_slot d) t old new → HasLeft o (at old k) → HasLeft o (at new k)
left-became o d t old new k is h = subst (HasLeft o) (sym (is k)) (go (t k))
  where
    go : (b : Bool) → HasLeft o (cond b (left_slot d (at old k)) (at old k))
    go true = left-more o (at old k) d h
    go false = h

pub left-same : (o : Option Held) → HasLeft o o
left-same None = refl
left-same (Some x) = inl refl
