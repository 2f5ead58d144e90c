-- Lists in order: what comparing place after place tells, what a sort ensures, and lists whose items all have other keys.
use Rattle.std.proofs.Common.{◌≡◌, ◌≢◌, ℕ, zero, suc, ◌+◌, ◌<◌, ◌≤◌, Bool, true, false, cond, List, [], ◌∷◌, length, map, take, get_or, refl, sym, ap, ◌∙◌, arith, add-one, Bor}
use Rattle.std.specs.Prelude.{slice_get, count_by}
use Rattle.std.specs.List.{AllByRecursion}
use Rattle.std.specs.List.Sorted.{IsPermutation, IsSortedByKey, IsSortedByClosure}
use Rattle.std.specs.declared.cmp.Ordering.{Ordering}
use Rattle.std.specs.declared.cmp.Ordering.TheVariants.{Less, Equal, Greater}
use Rattle.std.specs.Ordering.{ordering_then, ordering_reverse, is_ne, is_eq, is_lt}
use Rattle.std.specs.Option.{option_cmp}
use Rattle.std.specs.Cmp.{IsTotalOrder, tied_itself}
use Rattle.std.specs.Cmp.Lexicographic.{slice_cmp}
use Rattle.std.specs.Fn.{Called}
use Rattle.std.proofs.lemmas.Fn.{always_returns_same}
use Rattle.std.proofs.lemmas.List.Elements.{All-from_recursion, recursion_from_All}
use Rattle.std.proofs.lemmas.List.Sums.{sum_by-cons}
use Rattle.std.proofs.lemmas.List.Sorted.{ranks_by, sorted_far, All-permutation, sum_by-IsPermutation}
use Rattle.kn_model.specs.Reports.{Rises}
use denote.Param.Members.{Mut}

-- ---- comparing place after place

pub then_equal : (o p : Ordering) → ordering_then o p ≡ Equal → (o ≡ Equal) × (p ≡ Equal)
then_equal Less p e = absurd cc
then_equal Equal p e = (refl, e)
then_equal Greater p e = absurd cc

then_first : (o p : Ordering) → is_ne o ≡ true → ordering_then o p ≡ o
then_first Less p h = refl
then_first Equal p h = absurd cc
then_first Greater p h = refl

pub tied : (o : Ordering) → is_ne o ≡ false → o ≡ Equal
tied Less h = absurd cc
tied Equal h = refl
tied Greater h = absurd cc

module _ {A : Type 0} (cmp : A → A → Ordering) where
  -- so many places, and one more, are the same
  pub tied_more : (k : ℕ) (xs ys : List A) → slice_cmp cmp (take k xs) (take k ys) ≡ Equal → option_cmp cmp (slice_get xs k) (slice_get ys k) ≡ Equal → slice_cmp cmp (take (k + 1) xs) (take (k + 1) ys) ≡ Equal
  tied_more k xs ys = rw (add-one k) (go k xs ys)
    where
      go : (k : ℕ) (xs ys : List A) → slice_cmp cmp (take k xs) (take k ys) ≡ Equal → option_cmp cmp (slice_get xs k) (slice_get ys k) ≡ Equal → slice_cmp cmp (take (suc k) xs) (take (suc k) ys) ≡ Equal
      go k [] [] h e = refl
      go zero [] (y ∷ ys) h e = e
      go (suc k) [] (y ∷ ys) h e = h
      go zero (x ∷ xs) [] h e = e
      go (suc k) (x ∷ xs) [] h e = h
      go zero (x ∷ xs) (y ∷ ys) h e = ap (λ (o : Ordering). ordering_then o Equal) e
      go (suc k) (x ∷ xs) (y ∷ ys) h e =
          let both = then_equal (cmp x y) (slice_cmp cmp (take k xs) (take k ys)) h in
          ap (λ (o : Ordering). ordering_then o (slice_cmp cmp (take (suc k) xs) (take (suc k) ys))) both.0 ∙ go k xs ys both.1 e

  -- the first place that is not the same decides
  pub first_decides : (n k : ℕ) (xs ys : List A) → k < n → slice_cmp cmp (take k xs) (take k ys) ≡ Equal → is_ne (option_cmp cmp (slice_get xs k) (slice_get ys k)) ≡ true → slice_cmp cmp (take n xs) (take n ys) ≡ option_cmp cmp (slice_get xs k) (slice_get ys k)
  first_decides zero k xs ys less h e = absurd (omega arith)
  first_decides (suc n) k [] [] less h e = absurd cc
  first_decides (suc n) zero [] (y ∷ ys) less h e = refl
  first_decides (suc n) (suc k) [] (y ∷ ys) less h e = absurd cc
  first_decides (suc n) zero (x ∷ xs) [] less h e = refl
  first_decides (suc n) (suc k) (x ∷ xs) [] less h e = absurd cc
  first_decides (suc n) zero (x ∷ xs) (y ∷ ys) less h e = then_first (cmp x y) (slice_cmp cmp (take n xs) (take n ys)) e
  first_decides (suc n) (suc k) (x ∷ xs) (y ∷ ys) less h e =
      let both = then_equal (cmp x y) (slice_cmp cmp (take k xs) (take k ys)) h in
      ap (λ (o : Ordering). ordering_then o (slice_cmp cmp (take n xs) (take n ys))) both.0 ∙ first_decides n k xs ys (omega (arith, less)) both.1 e

-- ---- what a sort ensures

-- a sort by a closure that compares keys sorts by keys
pub sorted_by_answers : {X K F : Type 0} {cmp : K → K → Ordering} (o : IsTotalOrder cmp) (key : X → K) {g : Mut F (Bor X × (Bor X × Unit {0})) Ordering} {f : F} (xs : List X) → IsSortedByClosure g f xs
    → ((a : Bor X × (Bor X × Unit {0})) (r : Ordering) (f' : F) → Called g f a r f' → (r ≡ cmp (key a.0.now) (key a.1.0.now)) × (f' ≡ f)) → IsSortedByKey key cmp xs
sorted_by_answers {cmp = cmp} o key {g = g} {f = f} xs up answers =
    up (λ x y. is_lt (cmp (key x) (key y))) (ranks_by o key)
    (always_returns_same g (λ a r. is_lt r ≡ is_lt (cmp (key a.0.now) (key a.1.0.now))) f (λ a r f' called. (ap is_lt (answers a r f' called).0, (answers a r f' called).1)))

-- what holds of all items holds of them in another order
pub all_moved : {A : Type 0} (P : A → Type 0) (xs ys : List A) → IsPermutation xs ys → AllByRecursion P xs → AllByRecursion P ys
all_moved P xs ys same h = recursion_from_All P ys (All-permutation P xs ys same (All-from_recursion P xs h))

-- ---- items that all have other keys

module _ {K : Type 0} (cmp : K → K → Ordering) where
  -- no two keys are the same
  abbrev pub AllDiffer : List K → Type 0
  AllDiffer [] = Unit {0}
  AllDiffer (k ∷ ks) = AllByRecursion (λ (j : K). cmp k j ≢ Equal) ks × AllDiffer ks

module _ {A K : Type 0} (cmp : K → K → Ordering) (o : IsTotalOrder cmp) (key : A → K) where
  -- the item has this key
  abbrev has_key : K → A → Bool
  has_key k x = is_eq (cmp k (key x))

  -- 1 where keys are the same
  abbrev one_of : Ordering → ℕ
  one_of c = cond (is_eq c) 1 0

  -- 1 for an item that has this key
  abbrev one_if : K → A → ℕ
  one_if k x = one_of (cmp k (key x))

  -- no key comes twice
  abbrev pub AreOnce : List A → Type 0
  AreOnce xs = (k : K) → count_by (has_key k) xs ≤ 1

  other_key : (c : Ordering) → c ≢ Equal → one_of c ≡ 0
  other_key Less h = refl
  other_key Equal h = absurd (h refl)
  other_key Greater h = refl

  absent : (k : K) (xs : List A) → AllByRecursion (λ (j : K). cmp k j ≢ Equal) (map key xs) → count_by (has_key k) xs ≡ 0
  absent k [] h = refl
  absent k (x ∷ xs) h = sum_by-cons (one_if k) x xs ∙ omega (arith, other_key (cmp k (key x)) h.0, absent k xs h.1)

  same_key : (k : K) (x : A) (ys : List A) → cmp k (key x) ≡ Equal → AllByRecursion (λ (j : K). cmp (key x) j ≢ Equal) (map key ys) → AllByRecursion (λ (j : K). cmp k j ≢ Equal) (map key ys)
  same_key k x [] e h = tt
  same_key k x (y ∷ ys) e h = (λ same. h.0 (sym (o.congr k (key x) (key y) e) ∙ same), same_key k x ys e h.1)

  once_more : (k : K) (x : A) (xs : List A) → (c : Ordering) → cmp k (key x) ≡ c → count_by (has_key k) xs ≤ 1 → (c ≡ Equal → count_by (has_key k) xs ≡ 0) → count_by (has_key k) (x ∷ xs) ≤ 1
  once_more k x xs Equal e most none = let this : one_if k x ≡ 1 = ap (λ (c : Ordering). one_of c) e in omega (arith, sum_by-cons (one_if k) x xs, this, none refl)
  once_more k x xs Less e most none = let this : one_if k x ≡ 0 = ap (λ (c : Ordering). one_of c) e in omega (arith, sum_by-cons (one_if k) x xs, this, most)
  once_more k x xs Greater e most none = let this : one_if k x ≡ 0 = ap (λ (c : Ordering). one_of c) e in omega (arith, sum_by-cons (one_if k) x xs, this, most)

  pub once_where_differ : (xs : List A) → AllDiffer cmp (map key xs) → AreOnce xs
  once_where_differ [] h k = omega arith
  once_where_differ (x ∷ xs) h k = once_more k x xs (cmp k (key x)) refl (once_where_differ xs h.1 k) (λ e. absent k xs (same_key k x xs e h.0))

  pub once_of_moved : (xs ys : List A) → IsPermutation xs ys → AreOnce xs → AreOnce ys
  once_of_moved xs ys same once k = omega (arith, once k, sum_by-IsPermutation (one_if k) xs ys same)

  less_where : (c : Ordering) (n : ℕ) → is_lt (ordering_reverse c) ≡ false → one_of c + n ≡ 0 → c ≡ Less
  less_where Less n low e = refl
  less_where Equal n low e = absurd (omega (arith, e))
  less_where Greater n low e = absurd cc

  -- no key comes before an earlier one
  abbrev AreUp : List A → Type 0
  AreUp xs = (i j : ℕ) (d : A) → i ≤ j → j < length xs → is_lt (cmp (key (get_or xs j d)) (key (get_or xs i d))) ≡ false

  above : (x : A) (ys : List A) → ((j : ℕ) → j < length ys → is_lt (cmp (key (get_or ys j x)) (key x)) ≡ false) → count_by (has_key (key x)) ys ≡ 0 → AllByRecursion (λ (k : K). cmp (key x) k ≡ Less) (map key ys)
  above x [] up none = tt
  above x (y ∷ ys) up none =
      let all : one_if (key x) y + count_by (has_key (key x)) ys ≡ 0 = sym (sum_by-cons (one_if (key x)) y ys) ∙ none in
      let low = sym (ap is_lt (o.antisymm (key y) (key x))) ∙ up 0 (omega arith) in
      (less_where (cmp (key x) (key y)) (count_by (has_key (key x)) ys) low all, above x ys (λ j inside. up (suc j) (omega (arith, inside))) (omega (arith, all)))

  rises_where_up : (xs : List A) → AreUp xs → AreOnce xs → Rises cmp (map key xs)
  rises_where_up [] up once = tt
  rises_where_up (x ∷ xs) up once =
      let this : one_if (key x) x ≡ 1 = ap (λ (c : Ordering). one_of c) (tied_itself o (key x)) in
      let none : count_by (has_key (key x)) xs ≡ 0 = omega (arith, this, once (key x), sum_by-cons (one_if (key x)) x xs) in (
        above x xs (λ j inside. up 0 (suc j) x (omega arith) (omega (arith, inside))) none,
        rises_where_up xs (λ i j d less inside. up (suc i) (suc j) d (omega (arith, less)) (omega (arith, inside))) (λ k. omega (arith, once k, sum_by-cons (one_if k) x xs)),
      )

  -- what is sorted by keys rises where no key comes twice
  pub rises_where_sorted : (xs : List A) → IsSortedByKey key cmp xs → AreOnce xs → Rises cmp (map key xs)
  rises_where_sorted xs sorted once = rises_where_up xs (sorted_far (λ x y. is_lt (cmp (key x) (key y))) (ranks_by o key) xs sorted) once
