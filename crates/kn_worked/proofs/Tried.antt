-- How many valuations come before those that meet a condition: the worked conditions that are small, live or far.
use Rattle.std.proofs.Common.{◌≡◌, ℕ, zero, suc, ◌%◌, ◌<◌, ◌≤◌, Bool, true, false, cond, List, [], ◌∷◌, length, get_or, refl, sym, ap, subst, arith}
use Rattle.std.specs.Prelude.{Contains, not, nat_eq, nat_lt, ◌&&◌}
use Rattle.std.specs.List.{AllByRecursion}
use Rattle.std.specs.declared.cmp.Ordering.TheVariants.{Less, Equal, Greater}
use Rattle.std.specs.Ordering.{ordering_then}
use Rattle.std.proofs.lemmas.Bool.{eqb-true, eqb-false, ltb-true, ltb-false, lt-ltb}
use Rattle.std.proofs.Math.Nat.{mod-eq_of_lt}
use Rattle.kn_word.specs.Words.{one_if}
use Rattle.kn_word.specs.declared.Op.TheVariants as ops
use Rattle.kn_model.specs.Terms.{Word, Input, Apply, same_bit}
use Rattle.kn_model.specs.Conditions.{AreDistinct, AreWords, MeetsWith, ComesBefore, holds}
use Rattle.kn_worked.specs.Networks.{is_not}
use Rattle.kn_worked.specs.Limits.{from_200, FarAtBound, NearAboveBound, PossibleIsLive}
use Rattle.kn_model.proofs.Counting.{at_most}

-- the numbers below one, each as a list of its own
abbrev below : ℕ → List (List ℕ)
below zero = []
below (suc n) = (n ∷ []) ∷ below n

length_below : (n : ℕ) → length (below n) ≡ n
length_below zero = refl
length_below (suc n) = ap suc (length_below n)

absent_below : (n m k : ℕ) → n ≤ m → k < length (below n) → get_or (below n) k (m ∷ []) ≡ (m ∷ []) → ⊥
absent_below zero m k h i e = omega (arith, i)
absent_below (suc n) m zero h i e = let f : n ≡ m = cc in omega (arith, h, f)
absent_below (suc n) m (suc k) h i e = absent_below n m k (omega (arith, h)) (omega (arith, i)) e

distinct_below : (n : ℕ) → AreDistinct (below n)
distinct_below zero = tt
distinct_below (suc n) = (λ c. absent_below n n c.0 (omega arith) c.1 c.2, distinct_below n)

found_below : (n w : ℕ) → w < n → Contains (below n) (w ∷ [])
found_below zero w h = absurd (omega (arith, h))
found_below (suc n) w h = go (nat_eq w n) refl (λ i. found_below n w i)
  where
    go : (b : Bool) → nat_eq w n ≡ b → (w < n → Contains (below n) (w ∷ [])) → Contains (below (suc n)) (w ∷ [])
    go true e rest = (0, omega arith, ap (λ k. k ∷ []) (sym (eqb-true w n e)))
    go false e rest =
        let ne = eqb-false w n e in
        let r = rest (omega (arith, h, ne)) in
        let k = r.1 in
        (suc r.0, omega (arith, k), r.2)

words_below : (n : ℕ) → n ≤ 256 → AllByRecursion (AreWords from_200.reads) (below n)
words_below zero h = tt
words_below (suc n) h = ((omega (arith, h), tt), words_below n (omega (arith, h)))

-- a word that meets the condition
abbrev large : ℕ → Bool
large w = same_bit (not (nat_eq (one_if (nat_lt w 200)) 0)) false && true

large_from : (w : ℕ) → large w ≡ true → 200 ≤ w
large_from w = go (nat_lt w 200) refl
  where
    go : (b : Bool) → nat_lt w 200 ≡ b → (same_bit (not (nat_eq (one_if b) 0)) false && true) ≡ true → 200 ≤ w
    go true e h = absurd cc
    go false e h = ltb-false w 200 e

pub less_is : (w v : ℕ) → w < v → ComesBefore (w ∷ []) (v ∷ [])
less_is w v h = rw (lt-ltb w v h) refl

pub less_was : (w v : ℕ) → ComesBefore (w ∷ []) (v ∷ []) → w < v
less_was w v = go (nat_lt w v) refl (nat_eq w v)
  where
    go : (b : Bool) → nat_lt w v ≡ b → (c : Bool) → ordering_then (cond b Less (cond c Equal Greater)) Equal ≡ Less → w < v
    go true e c h = ltb-true w v e
    go false e true h = absurd cc
    go false e false h = absurd cc

meets_from : (v : ℕ) → MeetsWith from_200 (v ∷ []) → 200 ≤ v
meets_from v m = go (nat_eq v 0) m.1
  where
    go : (b : Bool) → holds (cond b [] (record { node = 0; index = 0; word = v } ∷ [])) (is_not (Apply ops.Ult (Input 0 0 8) (Word 200)) ∷ []) ≡ true → 200 ≤ v
    go true e = absurd cc
    go false e = let r = m.0.0 in subst (λ w. 200 ≤ w) (mod-eq_of_lt r) (large_from (v % 256) e)

before_200 : (w : ℕ) → w < 200 → (vs : List ℕ) → MeetsWith from_200 vs → ComesBefore (w ∷ []) vs
before_200 w h [] m = absurd m.0
before_200 w h (v ∷ []) m = let k = meets_from v m in less_is w v (omega (arith, h, k))
before_200 w h (v ∷ (u ∷ us)) m = absurd m.0.1

all_before : (n : ℕ) → n ≤ 200 → AllByRecursion (λ ws. (vs : List ℕ) → MeetsWith from_200 vs → ComesBefore ws vs) (below n)
all_before zero h = tt
all_before (suc n) h = (before_200 n (omega (arith, h)), all_before n (omega (arith, h)))

pub far_at_bound : FarAtBound
far_at_bound = record {
  large = λ h. omega (arith, h);
  tried = below 200;
  many = length_below 200;
  distinct = distinct_below 200;
  each = words_below 200 (omega arith);
  before = all_before 200 (omega arith);
}

meets_200 : MeetsWith from_200 (200 ∷ [])
meets_200 = ((omega arith, tt), refl)

-- what comes before 200 is a number below it
among : (ws : List ℕ) → AreWords from_200.reads ws → ComesBefore ws (200 ∷ []) → Contains (below 200) ws
among [] w h = absurd w
among (w ∷ []) h e = found_below 200 w (less_was w 200 e)
among (w ∷ (v ∷ vs)) h e = absurd h.1

all_among : (xs : List (List ℕ)) → AllByRecursion (AreWords from_200.reads) xs → AllByRecursion (λ ws. (vs : List ℕ) → MeetsWith from_200 vs → ComesBefore ws vs) xs → AllByRecursion (Contains (below 200)) xs
all_among [] h b = tt
all_among (x ∷ xs) h b = (among x h.0 (b.0 (200 ∷ []) meets_200), all_among xs h.1 b.1)

pub near_above_bound : NearAboveBound
near_above_bound far =
    let few = at_most (below 200) far.tried (all_among far.tried far.each far.before) far.distinct in
    let many = far.many in
    let whole = length_below 200 in
    omega (arith, few, many, whole)

pub possible_is_live : PossibleIsLive
possible_is_live never small = let wrong : true ≡ false = never (record { node = 0; index = 0; word = 255 } ∷ []) in cc
