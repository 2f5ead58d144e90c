-- How the numbers of states, their lines, their columns and their picks belong together.
use Rattle.std.proofs.Common.{◌≡◌, ℕ, zero, suc, ◌+◌, ◌-◌, ◌*◌, ◌<◌, ◌≤◌, List, [], ◌∷◌, ◌++◌, length, map, Some, None, refl, sym, ap, subst, ◌∙◌, arith, append_assoc, inl, inr}
use Rattle.std.specs.Prelude.{Contains, slice_get, slice_index_or, flat_map}
use Rattle.std.specs.List.{AllByRecursion}
use Rattle.std.proofs.lemmas.Bool.{cases_lt}
use Rattle.std.proofs.lemmas.List.{append-nil, length-append}
use Rattle.std.proofs.lemmas.List.Concat.{flat_map-cons}
use Rattle.std.proofs.Math.Nat.{suc-mul}
use Rattle.kn_built.specs.Picks.{picks}
use Rattle.kn_node.specs.Views.{ConfigView}
use Rattle.kn_model.specs.Reports.{StateLine, singles}
use Rattle.kn_cob.specs.Reports.{line_of, lines_from, numbers, dstates_from, AreLong}

pub some_one : {A : Type 0} (x y : A) → Some x ≡ Some y → x ≡ y
some_one x y e = cc

pub none_some : {A P : Type 0} (x : A) → None ≡ Some x → P
none_some x e = absurd cc

-- the element behind a front
pub get_behind : {A : Type 0} (before : List A) (x : A) (after : List A) → slice_get (before ++ (x ∷ after)) (length before) ≡ Some x
get_behind [] x after = refl
get_behind (b ∷ before) x after = get_behind before x after

pub get_map : {A B : Type 0} (f : A → B) (xs : List A) (k : ℕ) (y : B) → slice_get (map f xs) k ≡ Some y → (x : A) × (slice_get xs k ≡ Some x) × (f x ≡ y)
get_map f [] k y e = none_some y e
get_map f (x ∷ xs) zero y e = (x, refl, some_one (f x) y e)
get_map f (x ∷ xs) (suc k) y e = get_map f xs k y e

pub map_get : {A B : Type 0} (f : A → B) (xs : List A) (k : ℕ) (x : A) → slice_get xs k ≡ Some x → slice_get (map f xs) k ≡ Some (f x)
map_get f [] k x e = none_some x e
map_get f (x ∷ xs) zero y e = ap (λ z. Some (f z)) (some_one x y e)
map_get f (x ∷ xs) (suc k) y e = map_get f xs k y e

pub get_less : {A : Type 0} (xs : List A) (k : ℕ) (x : A) → slice_get xs k ≡ Some x → k < length xs
get_less [] k x e = none_some x e
get_less (y ∷ xs) zero x e = omega arith
get_less (y ∷ xs) (suc k) x e = let h = get_less xs k x e in omega (arith, h)

pub get_some : {A : Type 0} (xs : List A) (k : ℕ) → k < length xs → (x : A) × (slice_get xs k ≡ Some x)
get_some [] k h = absurd (omega arith)
get_some (x ∷ xs) zero h = (x, refl)
get_some (x ∷ xs) (suc k) h = get_some xs k (omega (arith, h))

-- an element that is contained stands somewhere, and back
pub contained_at : {A : Type 0} (xs : List A) (x : A) → Contains xs x → (k : ℕ) × (slice_get xs k ≡ Some x)
contained_at xs x c = (c.0, go xs c.0 c.1 c.2)
  where
    go : {A : Type 0} {x : A} (xs : List A) (k : ℕ) → k < length xs → slice_index_or xs k x ≡ x → slice_get xs k ≡ Some x
    go [] k h e = absurd (omega arith)
    go {x} (y ∷ xs) zero h e = ap (λ z. Some z) e
    go (y ∷ xs) (suc k) h e = go xs k (omega (arith, h)) e

pub contains_at : {A : Type 0} (xs : List A) (k : ℕ) (x : A) → slice_get xs k ≡ Some x → Contains xs x
contains_at xs k x e = (k, get_less xs k x e, go xs k x e)
  where
    go : {A : Type 0} (xs : List A) (k : ℕ) (x : A) → slice_get xs k ≡ Some x → slice_index_or xs k x ≡ x
    go [] k x e = refl
    go (y ∷ xs) zero x e = some_one y x e
    go (y ∷ xs) (suc k) x e = go xs k x e

pub all_at : {A : Type 0} (P : A → Type 0) (xs : List A) (k : ℕ) (x : A) → AllByRecursion P xs → slice_get xs k ≡ Some x → P x
all_at P [] k x h e = none_some x e
all_at P (y ∷ xs) zero x h e = subst P (some_one y x e) h.0
all_at P (y ∷ xs) (suc k) x h e = all_at P xs k x h.1 e

pub all_contained : {A : Type 0} (P : A → Type 0) (xs : List A) (x : A) → AllByRecursion P xs → Contains xs x → P x
all_contained P xs x h c = let at = contained_at xs x c in all_at P xs at.0 x h at.1

pub all_mapped : {A B : Type 0} (P : A → Type 0) (Q : B → Type 0) (f : A → B) → ((x : A) → P x → Q (f x)) → (xs : List A) → AllByRecursion P xs → AllByRecursion Q (map f xs)
all_mapped P Q f go [] h = tt
all_mapped P Q f go (x ∷ xs) h = (go x h.0, all_mapped P Q f go xs h.1)

-- from number i on stand the lines of the nodes from n on
abbrev pub Matches : List StateLine → ℕ → ℕ → List ConfigView → Type 0
Matches lines i n [] = Unit {0}
Matches lines i n (s ∷ ss) = (slice_get lines i ≡ Some (line_of n s)) × Matches lines (i + 1) (n + 1) ss

-- the same for scenario after scenario
abbrev pub AllMatch : ℕ → List StateLine → ℕ → List (List ConfigView) → Type 0
AllMatch nodes lines i [] = Unit {0}
AllMatch nodes lines i (x ∷ xs) = Matches lines i 0 x × AllMatch nodes lines (i + nodes) xs

matches_in : (before : List StateLine) (n : ℕ) (ss : List ConfigView) (after : List StateLine) (i : ℕ) → i ≡ length before → Matches (before ++ (lines_from n ss ++ after)) i n ss
matches_in before n [] after i e = tt
matches_in before n (s ∷ ss) after i e =
    let rest = lines_from (n + 1) ss ++ after in
    let longer : i + 1 ≡ length (before ++ (line_of n s ∷ [])) = omega (arith, e, length-append before (line_of n s ∷ [])) in (
      ap (λ k. slice_get (before ++ (line_of n s ∷ rest)) k) e ∙ get_behind before (line_of n s) rest,
      subst (λ lines. Matches lines (i + 1) (n + 1) ss) (append_assoc before (line_of n s ∷ []) rest) (matches_in (before ++ (line_of n s ∷ [])) (n + 1) ss after (i + 1) longer),
    )

pub length-lines_from : (n : ℕ) (ss : List ConfigView) → length (lines_from n ss) ≡ length ss
length-lines_from n [] = refl
length-lines_from n (s ∷ ss) = ap suc (length-lines_from (n + 1) ss)

all_match_in : (nodes : ℕ) (before : List StateLine) (xs : List (List ConfigView)) (i : ℕ) → i ≡ length before → AreLong nodes xs → AllMatch nodes (before ++ flat_map (lines_from 0) xs) i xs
all_match_in nodes before [] i e long = tt
all_match_in nodes before (x ∷ xs) i e long =
    let here = lines_from 0 x in
    let rest = flat_map (lines_from 0) xs in
    let longer : i + nodes ≡ length (before ++ here) = omega (arith, e, length-append before here, length-lines_from 0 x, long.0) in
    let whole : before ++ (here ++ rest) ≡ before ++ flat_map (lines_from 0) (x ∷ xs) = ap (λ l. before ++ l) (sym (flat_map-cons (lines_from 0) x xs)) in
    subst (λ lines. Matches lines i 0 x × AllMatch nodes lines (i + nodes) xs) whole (
      matches_in before 0 x rest i e,
      subst (λ lines. AllMatch nodes lines (i + nodes) xs) (append_assoc before here rest) (all_match_in nodes (before ++ here) xs (i + nodes) longer long.1),
    )

pub all_match : (nodes : ℕ) (xs : List (List ConfigView)) → AreLong nodes xs → AllMatch nodes (flat_map (lines_from 0) xs) 0 xs
all_match nodes xs long = all_match_in nodes [] xs 0 refl long

pub matches_at : (lines : List StateLine) (i n : ℕ) (ss : List ConfigView) (k : ℕ) (s : ConfigView) → Matches lines i n ss → slice_get ss k ≡ Some s → slice_get lines (i + k) ≡ Some (line_of (n + k) s)
matches_at lines i n [] k s m e = none_some s e
matches_at lines i n (x ∷ ss) zero s m e =
    let same : x ≡ s = some_one x s e in
    let here : i + 0 ≡ i = omega arith in
    let this : n ≡ n + 0 = omega arith in
    ap (slice_get lines) here ∙ m.0 ∙ ap (λ z. Some (line_of n z)) same ∙ ap (λ z. Some (line_of z s)) this
matches_at lines i n (x ∷ ss) (suc k) s m e =
    let here : i + suc k ≡ (i + 1) + k = omega arith in
    let this : (n + 1) + k ≡ n + suc k = omega arith in
    ap (slice_get lines) here ∙ matches_at lines (i + 1) (n + 1) ss k s m.1 e ∙ ap (λ z. Some (line_of z s)) this

-- the number of a scenario's first state
abbrev pub first_of : (nodes i d : ℕ) → ℕ
first_of nodes i zero = i
first_of nodes i (suc d) = first_of nodes (i + nodes) d

first_later : (nodes i d : ℕ) → i ≤ first_of nodes i d
first_later nodes i zero = omega arith
first_later nodes i (suc d) = let h = first_later nodes (i + nodes) d in omega (arith, h)

first_next : (nodes i d : ℕ) → first_of nodes i (suc d) ≡ first_of nodes i d + nodes
first_next nodes i zero = refl
first_next nodes i (suc d) = first_next nodes (i + nodes) d

-- it is so many times the nodes
pub first_is : (nodes d : ℕ) → d * nodes ≡ first_of nodes 0 d
first_is nodes zero = omega arith
first_is nodes (suc d) = suc-mul d nodes ∙ (ap (λ (i : ℕ). i + nodes) (first_is nodes d) ∙ sym (first_next nodes 0 d))

-- scenarios do not share numbers
pub firsts_apart : (nodes i e d : ℕ) → e < d → first_of nodes i e + nodes ≤ first_of nodes i d
firsts_apart nodes i e zero h = absurd (omega arith)
firsts_apart nodes i zero (suc d) h = first_later nodes (i + nodes) d
firsts_apart nodes i (suc e) (suc d) h = firsts_apart nodes (i + nodes) e d (omega (arith, h))

-- A scenario by its number: its states, and the number of the first one.
pub record Row (nodes : ℕ) (lines : List StateLine) (i : ℕ) (xs : List (List ConfigView)) (d : ℕ) (columns : List (List ℕ)) : Type 0 where
  pub states : List ConfigView
  pub member : slice_get xs d ≡ Some states
  pub columns_are : columns ≡ singles nodes (first_of nodes i d)
  pub matches : Matches lines (first_of nodes i d) 0 states
  pub long : length states ≡ nodes

pub row_of : (nodes : ℕ) (lines : List StateLine) (i : ℕ) (xs : List (List ConfigView)) (d : ℕ) (columns : List (List ℕ)) → AllMatch nodes lines i xs → AreLong nodes xs
    → slice_get (dstates_from nodes i xs) d ≡ Some columns → Row nodes lines i xs d columns
row_of nodes lines i [] d columns m long e = none_some columns e
row_of nodes lines i (x ∷ xs) zero columns m long e = record { states = x; member = refl; columns_are = sym (some_one (singles nodes i) columns e); matches = m.0; long = long.0 }
row_of nodes lines i (x ∷ xs) (suc d) columns m long e =
    let r = row_of nodes lines (i + nodes) xs d columns m.1 long.1 e in
    record { states = r.states; member = r.member; columns_are = r.columns_are; matches = r.matches; long = r.long }

pub row_at : (nodes : ℕ) (lines : List StateLine) (i : ℕ) (xs : List (List ConfigView)) (d : ℕ) (states : List ConfigView) → AllMatch nodes lines i xs → AreLong nodes xs
    → slice_get xs d ≡ Some states → Row nodes lines i xs d (singles nodes (first_of nodes i d)) × (slice_get (dstates_from nodes i xs) d ≡ Some (singles nodes (first_of nodes i d)))
row_at nodes lines i [] d states m long e = none_some states e
row_at nodes lines i (x ∷ xs) zero states m long e = (record { states = x; member = refl; columns_are = refl; matches = m.0; long = long.0 }, refl)
row_at nodes lines i (x ∷ xs) (suc d) states m long e =
    let both = row_at nodes lines (i + nodes) xs d states m.1 long.1 e in
    let r = both.0 in
    (record { states = r.states; member = r.member; columns_are = r.columns_are; matches = r.matches; long = r.long }, both.1)

pub singles_at : (nodes j n : ℕ) (column : List ℕ) → slice_get (singles nodes j) n ≡ Some column → (n < nodes) × (column ≡ (j + n) ∷ [])
singles_at zero j n column e = none_some column e
singles_at (suc more) j zero column e =
    let here : j ≡ j + 0 = omega arith in
    (omega arith, sym (some_one (j ∷ []) column e) ∙ ap (λ k. k ∷ []) here)
singles_at (suc more) j (suc n) column e =
    let h = singles_at more (j + 1) n column e in
    let there : (j + 1) + n ≡ j + suc n = omega arith in
    (omega (arith, h.0), h.1 ∙ ap (λ k. k ∷ []) there)

pub numbers_at : (nodes j n i : ℕ) → slice_get (numbers nodes j) n ≡ Some i → (n < nodes) × (i ≡ j + n)
numbers_at zero j n i e = none_some i e
numbers_at (suc more) j zero i e = let h = some_one j i e in (omega arith, omega (arith, h))
numbers_at (suc more) j (suc n) i e = let h = numbers_at more (j + 1) n i e in (omega (arith, h.0), omega (arith, h.1))

pub at_numbers : (nodes j n : ℕ) → n < nodes → slice_get (numbers nodes j) n ≡ Some (j + n)
at_numbers zero j n h = absurd (omega arith)
at_numbers (suc more) j zero h = let e : j ≡ j + 0 = omega arith in ap (λ k. Some k) e
at_numbers (suc more) j (suc n) h = let e : (j + 1) + n ≡ j + suc n = omega arith in at_numbers more (j + 1) n (omega (arith, h)) ∙ ap (λ k. Some k) e

pub at_singles : (nodes j n : ℕ) → n < nodes → slice_get (singles nodes j) n ≡ Some ((j + n) ∷ [])
at_singles zero j n h = absurd (omega arith)
at_singles (suc more) j zero h = let e : j ≡ j + 0 = omega arith in ap (λ (k : ℕ). Some (k ∷ [])) e
at_singles (suc more) j (suc n) h = let e : (j + 1) + n ≡ j + suc n = omega arith in at_singles more (j + 1) n (omega (arith, h)) ∙ ap (λ (k : ℕ). Some (k ∷ [])) e

-- columns of one state each have one pick
pub picks_single : (nodes j : ℕ) → picks (singles nodes j) ≡ numbers nodes j ∷ []
picks_single zero j = refl
picks_single (suc more) j =
    flat_map-cons (λ (s : ℕ). map (λ (p : List ℕ). s ∷ p) (picks (singles more (j + 1)))) j []
    ∙ append-nil (map (λ (p : List ℕ). j ∷ p) (picks (singles more (j + 1))))
    ∙ ap (map (λ (p : List ℕ). j ∷ p)) (picks_single more (j + 1))

pub one_of : {A : Type 0} (x y : A) → Contains (x ∷ []) y → x ≡ y
one_of {A} x y c = go c.0 c.1 c.2
  where
    go : (k : ℕ) → k < 1 → slice_index_or (x ∷ []) k y ≡ y → x ≡ y
    go zero h e = e
    go (suc k) h e = absurd (omega (arith, h))

pub only : {A : Type 0} (x : A) → Contains (x ∷ []) x
only x = (0, omega arith, refl)

-- a state's number is that of a node of a scenario
pub record Spot (nodes i : ℕ) (xs : List (List ConfigView)) (number : ℕ) : Type 0 where
  pub d : ℕ
  pub n : ℕ
  pub states : List ConfigView
  pub state : ConfigView
  pub member : slice_get xs d ≡ Some states
  pub there : slice_get states n ≡ Some state
  pub is : number ≡ first_of nodes i d + n

pub spot_of : (nodes i : ℕ) (xs : List (List ConfigView)) (k : ℕ) → AreLong nodes xs → k < length (flat_map (lines_from 0) xs) → Spot nodes i xs (i + k)
spot_of nodes i [] k long h = absurd (omega arith)
spot_of nodes i (x ∷ xs) k long h =
    elim (cases_lt k nodes) [
      | inl less ↦
          let at = get_some x k (omega (arith, less, long.0)) in
          record { d = 0; n = k; states = x; state = at.0; member = refl; there = at.1; is = refl }
      | inr more ↦
          let both : length (flat_map (lines_from 0) (x ∷ xs)) ≡ length (lines_from 0 x) + length (flat_map (lines_from 0) xs) =
          ap length (flat_map-cons (lines_from 0) x xs) ∙ length-append (lines_from 0 x) (flat_map (lines_from 0) xs) in
          let fewer : k - nodes < length (flat_map (lines_from 0) xs) = omega (arith, h, more, both, length-lines_from 0 x, long.0) in
          let r = spot_of nodes (i + nodes) xs (k - nodes) long.1 fewer in
          let same : i + k ≡ first_of nodes (i + nodes) r.d + r.n = omega (arith, more, r.is) in
          record { d = suc r.d; n = r.n; states = r.states; state = r.state; member = r.member; there = r.there; is = same }
    ]
